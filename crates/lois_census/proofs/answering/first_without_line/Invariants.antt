use Rattle.std.proofs.Common.{take, map}
use Rattle.std.specs.List.{All}
use Rattle.lois_answers.specs.CaseView.{case_of}
use Rattle.lois_census.specs.Censuses.{HasNamedLine}
use Rattle.lois_census.proofs.answering.first_without_line.Given as goal

abbrev pub invariant-loop-index : goal.invariant-loop-index
invariant-loop-index l = All (HasNamedLine l.name) (map case_of (take l.index l.case-items))
