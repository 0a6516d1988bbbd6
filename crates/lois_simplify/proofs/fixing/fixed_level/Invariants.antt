use Rattle.std.proofs.Common.{ℕ, ◌<◌}
use Rattle.lois_simplify.specs.Fixed.{CanBeApart}
use Rattle.lois_simplify.proofs.fixing.fixed_level.Given as goal

abbrev pub invariant-loop-level : goal.invariant-loop-level
invariant-loop-level g l = record {
  apart : (a : ℕ) → a < l.level → CanBeApart l.size l.here l.binder a;
  asked : g.D.Oracle.reaches l.fn.decider l.decider;
}
