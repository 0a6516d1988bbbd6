use Rattle.std.proofs.Common.{ℕ, ◌<◌}
use Rattle.lois_deciders.proofs.Placed.{FailsAt}
use Rattle.lois_deciders.proofs.places.with_one_more.Given as goal

abbrev pub invariant-loop-place : goal.invariant-loop-place
invariant-loop-place l = (p : ℕ) → p < l.place → FailsAt l.sample l.c p
