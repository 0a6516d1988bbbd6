use Rattle.std.proofs.Common.{◌≡◌, ◌≤◌, take, length, vec_capacity}
use Rattle.lois_constraint.proofs.order_closure.copy_rows.Given as goal

abbrev pub invariant-loop-row : goal.invariant-loop-row
invariant-loop-row l = record {
  copied : l.copy.items ≡ take l.row-index l.rows;
  room : length l.rows ≤ vec_capacity l.copy;
}
