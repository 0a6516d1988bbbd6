use Rattle.std.proofs.Common.{ℕ, ◌+◌, ◌<◌, map, drop, get_or}
use Rattle.std.specs.List.{All}
use Rattle.lois_answers.specs.CaseView.{case_of}
use Rattle.lois_answers.specs.declared.results.Case.{Case}
use Rattle.lois_deciders.specs.OnlyAsked.{HasOnlyAsked}
use Rattle.lois_cases.specs.Partitions.{ExcludeEachOther}
use Rattle.lois_cases.proofs.partitions.find_overlap.Given as goal

abbrev pub invariant-loop-index : goal.invariant-loop-index
invariant-loop-index g l = record {
  sofar : (i : ℕ) (x : Case) → i < l.index → All (ExcludeEachOther l.size (get_or l.cases i x).when) (map case_of (drop (i + 1) l.cases));
  only_asked : HasOnlyAsked (λ b. (goal.Decider-dyn g (b.vtable, b.value)).kind_of b.value) (λ b. (goal.Decider-dyn g (b.vtable, b.value)).questions b.value) l.fn.chosen l.chosen;
}
