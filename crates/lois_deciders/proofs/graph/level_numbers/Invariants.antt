use Rattle.std.proofs.Common.{◌≡◌, ℕ, ◌<◌, length, get_or}
use Rattle.lois_deciders.proofs.graph.level_numbers.Given as goal

abbrev pub invariant-loop-level : goal.invariant-loop-level
invariant-loop-level l = record {
  count : length l.numbers.items ≡ l.level;
  own : (i : ℕ) → i < l.level → get_or l.numbers.items i 0 ≡ i;
}
