use Rattle.std.proofs.Common.{◌≡◌, ℕ, ◌+◌, ◌*◌, ◌<◌, ◌≤◌, ◌==◌}
use Rattle.std.specs.Int.{bit_at}
use Rattle.lois_constraint.specs.Order.{at_most}
use Rattle.lois_constraint.proofs.order_closure.low_order.Given as goal

abbrev pub invariant-loop-level : goal.invariant-loop-level
invariant-loop-level l = record {
  below : (a b : ℕ) → a < l.level → b < 8 → (bit_at l.order (8 * a + b) == 1) ≡ at_most l.rows a b;
  above : (a b : ℕ) → l.level ≤ a → a < 8 → b < 8 → (bit_at l.order (8 * a + b) == 1) ≡ (a == b);
}
