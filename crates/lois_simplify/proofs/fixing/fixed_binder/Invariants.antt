use Rattle.std.proofs.Common.{ℕ, ◌<◌, ◌≤◌}
use Rattle.lois_simplify.specs.Fixed.{CanBeApart}
use Rattle.lois_simplify.proofs.fixing.fixed_binder.Given as goal

abbrev pub invariant-loop-binder : goal.invariant-loop-binder
invariant-loop-binder g l = record {
  apart : (b : ℕ) → l.from ≤ b → b < l.binder → (a : ℕ) → a < b → CanBeApart l.size l.here b a;
  asked : g.D.Oracle.reaches l.fn.decider l.decider;
}
