use Rattle.std.proofs.Common.{◌≡◌, ℕ, ◌<◌, get_or}
use Rattle.std.specs.List.{All, AllPairs, Contains}
use Rattle.lois_deciders.proofs.ranks.unheld_labels.Given as goal

abbrev pub invariant-loop-label : goal.invariant-loop-label
invariant-loop-label l = record {
  free : All (λ z. (z < l.label) × (get_or l.steps z 0 ≡ 0)) l.unheld.items;
  found : (z : ℕ) → z < l.label → get_or l.steps z 0 ≡ 0 → Contains l.unheld.items z;
  distinct : AllPairs (λ y z. y ≡ z → ⊥) l.unheld.items;
}
