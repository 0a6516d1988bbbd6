use Rattle.std.proofs.Common.{◌≡◌, ℕ, ◌*◌, ◌/◌, ◌^◌, ◌<◌, ◌≤◌, [], ◌∷◌, length, get_or, bit_and, vec_capacity}
use Rattle.lois_constraint.proofs.low_levels.low_rows.Given as goal

abbrev pub invariant-loop-level : goal.invariant-loop-level
invariant-loop-level l = record {
  count : length l.rows.items ≡ l.level;
  rows : (a : ℕ) → a < l.level → get_or l.rows.items a [] ≡ bit_and (l.word / 2 ^ (8 * a)) 255 ∷ [];
  room : 8 ≤ vec_capacity l.rows;
}
