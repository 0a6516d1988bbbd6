use Rattle.std.proofs.Common.{◌≡◌, ℕ, ◌<◌, ◌≤◌, [], ◌∷◌, length, get_or, vec_capacity}
use Rattle.smallvec.specs.SmallVec.{SmallVec}
use Rattle.lois_deciders.proofs.labels.own_classes.Given as goal

abbrev pub invariant-loop-level : goal.invariant-loop-level
invariant-loop-level l = record {
  count : length l.classes.items ≡ l.level;
  own : (i : ℕ) (d : SmallVec ℕ) → i < l.level → (get_or l.classes.items i d).items ≡ i ∷ [];
  room : l.size ≤ vec_capacity l.classes;
}
