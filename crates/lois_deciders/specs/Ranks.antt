-- Numbers for the labels of levels.
use Rattle.std.specs.Prelude.{◌≡◌, ℕ, ◌<◌, ◌⊎◌, Bool, true, false, ◌&&◌, ◌==◌, List, length, get_or, map, Contains}
use Rattle.std.specs.List.{All, AllPairs, count_by, filter}
use Rattle.smallvec.specs.SmallVec.{SmallVec}
use Rattle.lois_base.specs.declared.guards.Lit.{Lit}
use Rattle.lois_base.specs.declared.guards.Op.{Op}
use Rattle.lois_base.specs.declared.guards.Op.TheVariants.{Eq, Ne, Lt, AtMost}

abbrev pub is_less : Op → Bool
is_less Eq = false
is_less Ne = false
is_less Lt = true
is_less AtMost = false

-- the literal sets a label below the label y
abbrev pub is_step_to : List ℕ → ℕ → Lit → Bool
is_step_to labels y l = is_less l.op && get_or labels l.right 0 == y

abbrev pub is_step_from : List ℕ → ℕ → Lit → Bool
is_step_from labels x l = is_less l.op && get_or labels l.left 0 == x

-- for each label the upper labels of the `<` that begin there
pub record AreAbove (labels : List ℕ) (cube : List Lit) (above : List (SmallVec ℕ)) : Type 0 where
  pub count : length above ≡ length labels
  pub uppers : (x : ℕ) (d : SmallVec ℕ) → x < length labels → (get_or above x d).items ≡ map (λ l. get_or labels l.right 0) (filter (is_step_from labels x) cube)

abbrev pub occurrences : ℕ → List ℕ → ℕ
occurrences y = count_by (λ x. x == y)

-- the labels to which no step leads, each once
pub record AreUnheld (steps : List ℕ) (unheld : List ℕ) : Type 0 where
  pub free : All (λ z. (z < length steps) × (get_or steps z 0 ≡ 0)) unheld
  pub found : (z : ℕ) → z < length steps → get_or steps z 0 ≡ 0 → Contains unheld z
  pub distinct : AllPairs (λ y z. y ≡ z → ⊥) unheld

-- the last step to the label has gone
abbrev pub IsReleasedLabel : List ℕ → List ℕ → ℕ → Type 0
IsReleasedLabel old new z = (0 < get_or old z 0) × (get_or new z 0 ≡ 0)

-- the labels whose last step has gone are put to the others, each once
pub record IsReleased (old new unheld next : List ℕ) : Type 0 where
  pub keeps : All (Contains next) unheld
  pub added : All (λ z. Contains unheld z ⊎ IsReleasedLabel old new z) next
  pub found : (z : ℕ) → IsReleasedLabel old new z → Contains next z
  pub distinct : AllPairs (λ y z. y ≡ z → ⊥) unheld → All (λ z. get_or old z 0 ≡ 0) unheld → AllPairs (λ y z. y ≡ z → ⊥) next

-- the upper label of a `<` has the greater rank
abbrev pub IsRankedUp : List ℕ → List ℕ → Lit → Type 0
IsRankedUp labels ranks l =
    l.op ≡ Lt → get_or ranks (get_or labels l.left 0) 0 < get_or ranks (get_or labels l.right 0) 0

-- all levels have different ranks below their number, in the order of the cube
pub record IsFullRanking (cube : List Lit) (labels : List ℕ) (ranks : List ℕ) : Type 0 where
  pub count : length ranks ≡ length labels
  pub small : (i : ℕ) → i < length labels → get_or ranks i 0 < length labels
  pub apart : (i j : ℕ) → i < length labels → j < length labels → get_or ranks i 0 ≡ get_or ranks j 0 → i ≡ j
  pub ordered : All (IsRankedUp labels ranks) cube
