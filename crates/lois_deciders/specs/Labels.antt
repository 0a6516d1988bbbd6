-- Levels that a cube identifies.
use Rattle.std.specs.Prelude.{◌≡◌, ℕ, ◌<◌, ◌⊎◌, List, length, get_or, map, IsTrue, Contains}
use Rattle.std.specs.List.{All}
use Rattle.smallvec.specs.SmallVec.{SmallVec}
use Rattle.lois_base.specs.Atom.{Atom}
use Rattle.lois_base.specs.Theory.{IsSatisfiable}
use Rattle.lois_base.specs.Truth.{atom_at, op_holds, cube_holds}
use Rattle.lois_base.specs.declared.guards.Lit.{Lit}
use Rattle.lois_base.specs.declared.guards.Op.{Op}
use Rattle.lois_base.specs.declared.guards.Op.TheVariants.{Eq, Ne}
use Rattle.lois_constraint.specs.Substitution.{put_level}

-- the cube holds at no choice of n atoms
abbrev pub IsUnmet : ℕ → List Lit → Type 0
IsUnmet n cube = IsSatisfiable n cube → ⊥

-- wherever the cube holds, so does the relation between the atoms at two levels
abbrev pub Follows : List Lit → Op → ℕ → ℕ → Type 0
Follows cube op a b =
    (c : List Atom) → IsTrue (cube_holds c cube) → IsTrue (op_holds op (atom_at c a) (atom_at c b))

-- the levels of an equation have one label
abbrev pub IsJoined : List ℕ → Lit → Type 0
IsJoined labels l = l.op ≡ Eq → get_or labels l.left 0 ≡ get_or labels l.right 0

-- the levels of a `!=` have two labels
abbrev pub IsKeptApart : List ℕ → Lit → Type 0
IsKeptApart labels l = l.op ≡ Ne → get_or labels l.left 0 ≡ get_or labels l.right 0 → ⊥

-- each of n levels is labelled with a level that equals it, and the first literals' equations join labels
pub record IsLabelling (n : ℕ) (cube : List Lit) (first : ℕ) (labels : List ℕ) : Type 0 where
  pub count : length labels ≡ n
  pub small : (i : ℕ) → i < n → get_or labels i 0 < n
  pub equal : (i : ℕ) → i < n → Follows cube Eq i (get_or labels i 0)
  pub joined : (k : ℕ) (d : Lit) → k < first → IsJoined labels (get_or cube k d)

-- each label is a level, and its class has the levels that have it, and no others
pub record AreClasses (labels : List ℕ) (classes : List (SmallVec ℕ)) : Type 0 where
  pub count : length classes ≡ length labels
  pub small : (i : ℕ) → i < length labels → get_or labels i 0 < length labels
  pub sound : (x : ℕ) (d : SmallVec ℕ) → x < length labels → All (λ i. (i < length labels) × (get_or labels i 0 ≡ x)) (get_or classes x d).items
  pub complete : (i : ℕ) (d : SmallVec ℕ) → i < length labels → Contains (get_or classes (get_or labels i 0) d).items i

-- the label of one of the two levels is put for that of the other
abbrev pub Joins : ℕ → ℕ → List ℕ → List ℕ → Type 0
Joins left right labels next =
    (next ≡ map (put_level (get_or labels left 0) (get_or labels right 0)) labels) ⊎ (next ≡ map (put_level (get_or labels right 0) (get_or labels left 0)) labels)
