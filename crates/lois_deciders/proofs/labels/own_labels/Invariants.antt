use Rattle.std.proofs.Common.{◌≡◌, ℕ, ◌<◌, ◌≤◌, length, get_or, vec_capacity}
use Rattle.lois_deciders.proofs.labels.own_labels.Given as goal

abbrev pub invariant-loop-level : goal.invariant-loop-level
invariant-loop-level l = record {
  count : length l.labels.items ≡ l.level;
  own : (i : ℕ) → i < l.level → get_or l.labels.items i 0 ≡ i;
  room : l.size ≤ vec_capacity l.labels;
}
