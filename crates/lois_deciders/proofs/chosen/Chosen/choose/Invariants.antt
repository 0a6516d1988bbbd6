use Rattle.std.proofs.Common.{ℕ, ◌<◌, map}
use Rattle.std.specs.List.{HoldsAt}
use Rattle.lois_deciders.specs.Choice.{IsUnwanted}
use Rattle.lois_deciders.proofs.chosen.Chosen.choose.Given as goal

abbrev pub invariant-loop-position : goal.invariant-loop-position
invariant-loop-position g l =
    (i : ℕ) → i < l.position → HoldsAt (IsUnwanted l.kind) (map (λ b. (goal.Decider-dyn g (b.vtable, b.value)).kind_of b.value) l.deciders.items) i
