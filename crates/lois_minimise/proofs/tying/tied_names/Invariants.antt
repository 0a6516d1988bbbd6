use Rattle.std.proofs.Common.{◌≡◌, ℕ, ◌<◌, length, get_or}
use Rattle.lois_minimise.specs.Ties.{IsName}
use Rattle.lois_minimise.proofs.tying.tied_names.Given as goal

abbrev pub invariant-loop-level : goal.invariant-loop-level
invariant-loop-level l = record {
  count : length l.names.items ≡ l.level;
  each : (i : ℕ) → i < l.level → IsName l.size l.by l.ties i (get_or l.names.items i 0);
}
