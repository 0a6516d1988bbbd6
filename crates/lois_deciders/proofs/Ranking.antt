-- The labels that have a rank, and those that wait for one.
use Rattle.std.proofs.Common.{◌≡◌, ℕ, ◌+◌, ◌<◌, Bool, true, false, cond, List, length, get_or}
use Rattle.std.specs.List.{All, sum_by}
use Rattle.lois_base.specs.declared.guards.Lit.{Lit}
use Rattle.lois_base.specs.declared.guards.Op.TheVariants.{Lt}
use Rattle.lois_deciders.specs.Labels.{Follows}

abbrev pub Waits : List Bool → ℕ → Type 0
Waits waiting i = get_or waiting i true ≡ true

abbrev pub IsPlaced : List Bool → ℕ → Type 0
IsPlaced waiting i = get_or waiting i true ≡ false

-- some level below i waits
abbrev pub WaitsOnAnother : List Lit → List Bool → ℕ → Type 0
WaitsOnAnother cube waiting i =
    (j : ℕ) × (j < length waiting) × Waits waiting j × Follows cube Lt j i

-- what sets a label below the level is placed
abbrev pub IsAbovePlaced : List ℕ → List Bool → ℕ → Lit → Type 0
IsAbovePlaced labels waiting i l =
    l.op ≡ Lt → get_or labels l.right 0 ≡ i → IsPlaced waiting (get_or labels l.left 0)

pub record IsLowest (cube : List Lit) (labels : List ℕ) (waiting : List Bool) (i : ℕ) : Type 0 where
  pub level : i < length labels
  pub waits : Waits waiting i
  pub lowest : All (IsAbovePlaced labels waiting i) cube

abbrev pub EachWaitsOnAnother : List Lit → List Bool → Type 0
EachWaitsOnAnother cube waiting =
    (i : ℕ) → i < length waiting → Waits waiting i → WaitsOnAnother cube waiting i

abbrev pub one_where : Bool → ℕ
one_where b = cond b 1 0

-- where the upper label of a `<` is placed the lower is placed before it
abbrev pub IsOrdered : List ℕ → List Bool → List ℕ → Lit → Type 0
IsOrdered labels waiting ranks l =
    l.op ≡ Lt → IsPlaced waiting (get_or labels l.right 0) → IsPlaced waiting (get_or labels l.left 0) × (get_or ranks (get_or labels l.left 0) 0 < get_or ranks (get_or labels l.right 0) 0)

-- the placed levels have different ranks below `next`, in the order of the cube
pub record IsRanking (cube : List Lit) (labels : List ℕ) (waiting : List Bool) (ranks : List ℕ) (next : ℕ) : Type 0 where
  pub rank_count : length ranks ≡ length labels
  pub waiting_count : length waiting ≡ length labels
  pub small : (i : ℕ) → i < length labels → IsPlaced waiting i → get_or ranks i 0 < next
  pub apart : (i j : ℕ) → i < length labels → j < length labels → IsPlaced waiting i → IsPlaced waiting j → get_or ranks i 0 ≡ get_or ranks j 0 → i ≡ j
  pub ordered : All (IsOrdered labels waiting ranks) cube
  pub left : sum_by one_where waiting + next ≡ length labels
