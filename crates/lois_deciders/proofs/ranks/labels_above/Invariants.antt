use Rattle.std.proofs.Common.{◌≡◌, ℕ, ◌<◌, ◌≤◌, [], length, get_or, take, vec_capacity}
use Rattle.smallvec.specs.SmallVec.{SmallVec}
use Rattle.lois_deciders.specs.Ranks.{AreAbove}
use Rattle.lois_deciders.proofs.ranks.labels_above.Given as goal

abbrev pub invariant-loop-level : goal.invariant-loop-level
invariant-loop-level l = record {
  count : length l.above.items ≡ l._level-index;
  empty : (x : ℕ) (d : SmallVec ℕ) → x < l._level-index → (get_or l.above.items x d).items ≡ [];
  room : length l.labels ≤ vec_capacity l.above;
}

abbrev pub invariant-literals : goal.invariant-literals
invariant-literals l = AreAbove l.labels (take l.lit-index l.lit-items) l.above.items
