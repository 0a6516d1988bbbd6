use Rattle.std.proofs.Common.{◌≡◌, ℕ, ◌<◌, ◌≤◌, ◌||◌, ◌&&◌, [], get_or}
use Rattle.lois_constraint.specs.Order.{reaches, are_at_most}
use Rattle.lois_constraint.proofs.order_closure.raise.Given as goal

abbrev pub invariant-loop-row : goal.invariant-loop-row
invariant-loop-row l = record {
  below : (a b : ℕ) → a < l.row-index → are_at_most l.rows a b ≡ (are_at_most l.initial.rows a b || (are_at_most l.initial.rows a l.level && reaches l.more b));
  above : (a : ℕ) → l.row-index ≤ a → get_or l.rows a [] ≡ get_or l.initial.rows a [];
}
