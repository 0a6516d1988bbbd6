use Rattle.lois_answers.specs.LineView.{line_of}
use Rattle.lois_answers.specs.Sound.{IsSoundLine}
use Rattle.lois_census.proofs.Numbering.{last_named_has}
use Rattle.lois_census.proofs.answering.orbits_in.Goals as goal

pub census-requires-clause-over : goal.census-requires-clause-over
census-requires-clause-over g c =
    let sound = last_named_has (IsSoundLine g.T.Structure.ordered 0) c.args.name.now c.args.case.now.lines (line_of c.in-Some.line.now) c.in-Some.ensures.line c.requires.sound.lines in
    record {
      levels = sound.term.levels;
      operators = sound.term.operators;
    }
