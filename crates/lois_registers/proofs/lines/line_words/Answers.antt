use Rattle.std.proofs.Common.{map}
use Rattle.lois_registers.proofs.Cuts.{cut_line}
use Rattle.lois_registers.proofs.lines.line_words.Goals as goal

pub returns-clause-read : goal.returns-clause-read
returns-clause-read c =
    cut_line c.args.text.now (map (λ w. w.now) c.in_ok-words.words.items) c.in-Some.end c.in-Some.ensures.inside c.in-Some.ensures.found c.in-Some.ensures.before c.in_ok-words.ensures
