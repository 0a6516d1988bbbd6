use Rattle.std.proofs.Common.{take}
use Rattle.std.specs.List.{All}
use Rattle.lois_answers.specs.CaseView.{case_of}
use Rattle.lois_deciders.specs.OnlyAsked.{HasOnlyAsked}
use Rattle.lois_cases.specs.Partitions.{ExcludeEachOther}
use Rattle.lois_cases.proofs.partitions.find_meeting.Given as goal

abbrev pub invariant-loop-index : goal.invariant-loop-index
invariant-loop-index g l = record {
  sofar : All (λ x. ExcludeEachOther l.size l.when (case_of x)) (take l.index l.cases);
  only_asked : HasOnlyAsked (λ b. (goal.Decider-dyn g (b.vtable, b.value)).kind_of b.value) (λ b. (goal.Decider-dyn g (b.vtable, b.value)).questions b.value) l.fn.chosen l.chosen;
}
