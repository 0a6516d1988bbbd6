use Rattle.std.proofs.Common.{take}
use Rattle.std.specs.List.{All}
use Rattle.lois_base.specs.Truth.{sampled}
use Rattle.lois_answers.specs.CaseView.{case_of}
use Rattle.lois_cases.specs.Cases.{HoldsAt}
use Rattle.lois_cases.proofs.holding.find_first.Given as goal

abbrev pub invariant-loop-index : goal.invariant-loop-index
invariant-loop-index l = All (λ x. HoldsAt (sampled l.sample) (case_of x) → ⊥) (take l.index l.cases)
