use Rattle.std.specs.List.{All}
use Rattle.lois_context.specs.Choices.{AdmitsContext}
use Rattle.lois_deciders.specs.OnlyAsked.{HasOnlyAsked}
use Rattle.lois_interp.specs.Retold.{AreRetold}
use Rattle.lois_interp.proofs.retelling.all_retold.Given as goal

abbrev pub invariant-loop-context : goal.invariant-loop-context
invariant-loop-context g l = record {
  told : AreRetold l.yielded l.told.items;
  admits : All (AdmitsContext g.T.Structure.ordered) l.told.items;
  only_asked : HasOnlyAsked (λ b. (goal.Decider-dyn g (b.vtable, b.value)).kind_of b.value) (λ b. (goal.Decider-dyn g (b.vtable, b.value)).questions b.value) l.fn.chosen l.chosen;
}
