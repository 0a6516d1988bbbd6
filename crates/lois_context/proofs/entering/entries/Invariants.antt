use Rattle.std.proofs.Common.{take, map}
use Rattle.std.specs.List.{All}
use Rattle.lois_base.specs.Tree.{comp_of}
use Rattle.lois_deciders.specs.OnlyAsked.{HasOnlyAsked}
use Rattle.lois_context.specs.Entered.{IsCarried, AreMemberContexts}
use Rattle.lois_context.proofs.entering.entries.Given as goal

abbrev pub invariant-loop-comp : goal.invariant-loop-comp
invariant-loop-comp g l = record {
  entries : AreMemberContexts l.context l.name (map comp_of (take l.comp-index l.comp-items)) l.inner.items;
  known : All (IsCarried l.context) l.known.items;
  only_asked : HasOnlyAsked (λ b. (goal.Decider-dyn g (b.vtable, b.value)).kind_of b.value) (λ b. (goal.Decider-dyn g (b.vtable, b.value)).questions b.value) l.fn.chosen l.chosen;
}
