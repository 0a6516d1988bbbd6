use Rattle.std.proofs.Common.{◌≡◌, ℕ, ◌+◌, length}
use Rattle.lois_constraint.specs.Order.{are_at_most}
use Rattle.lois_constraint.proofs.order_closure.put_rows_below.Given as goal

abbrev pub invariant-loop : goal.invariant-loop
invariant-loop l = record {
  length : length l.rows.items ≡ length l.initial.rows.items + l.counter;
  same : (a b : ℕ) → are_at_most l.rows.items a b ≡ are_at_most l.initial.rows.items a b;
}
