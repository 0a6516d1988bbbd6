use Rattle.std.proofs.Common.{take}
use Rattle.std.specs.List.{All}
use Rattle.lois_base.specs.Tree.{tree, comp_of}
use Rattle.lois_deciders.specs.OnlyAsked.{HasOnlyAsked}
use Rattle.lois_same.specs.Members.{CompIsIncluded}
use Rattle.lois_same.proofs.members.find_member_alone.Given as goal

abbrev pub invariant-loop-comp : goal.invariant-loop-comp
invariant-loop-comp g l = record {
  sofar : All (λ x. CompIsIncluded l.size l.under (comp_of x) (tree l.other)) (take l.comp-index l.comp-items);
  only_asked : HasOnlyAsked (λ b. (goal.Decider-dyn g (b.vtable, b.value)).kind_of b.value) (λ b. (goal.Decider-dyn g (b.vtable, b.value)).questions b.value) l.fn.chosen l.chosen;
}
