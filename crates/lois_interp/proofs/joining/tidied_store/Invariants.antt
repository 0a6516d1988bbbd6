use Rattle.std.proofs.Common.{◌≡◌, length, take}
use Rattle.lois_deciders.specs.OnlyAsked.{HasOnlyAsked}
use Rattle.lois_interp.specs.Tidied.{AreTidied}
use Rattle.lois_interp.proofs.joining.tidied_store.Given as goal

abbrev pub invariant-loop-slot : goal.invariant-loop-slot
invariant-loop-slot g l = record {
  count : length l.tidied ≡ length l.yielded;
  tidied : AreTidied l.size l.«when» (take (length l.yielded) l.counts) (take (length l.yielded) l.fn.store) l.tidied;
  only_asked : HasOnlyAsked (λ b. (goal.Decider-dyn g (b.vtable, b.value)).kind_of b.value) (λ b. (goal.Decider-dyn g (b.vtable, b.value)).questions b.value) l.fn.chosen l.chosen;
}
