use Rattle.std.proofs.Common.{drop, map, ◌↔◌}
use Rattle.std.specs.List.{All}
use Rattle.lois_answers.specs.CaseView.{case_of}
use Rattle.lois_answers.specs.Sound.{IsSoundCase}
use Rattle.lois_answers.proofs.sound.are_sound_cases.Given as goal

abbrev pub invariant-loop-case : goal.invariant-loop-case
invariant-loop-case l =
    All (IsSoundCase l.ordered l.levels) l.cases ↔ All (IsSoundCase l.ordered l.levels) (map case_of (drop l.case-index l.case-items))
