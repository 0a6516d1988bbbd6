-- Equations of a level with another, and that one in its place.
use Rattle.std.specs.Prelude.{◌≡◌, ◌≢◌, ◌⊎◌, ℕ, Bool, not, ◌&&◌, ◌||◌, ◌==◌, if◌then◌else◌, List}
use Rattle.std.specs.List.{Contains}
use Rattle.lois_base.specs.Atom.{Atom}
use Rattle.lois_base.specs.Truth.{cube_holds}
use Rattle.lois_base.specs.declared.guards.Lit.{Lit}
use Rattle.lois_base.specs.declared.guards.Op.TheVariants.{Eq}
use Rattle.lois_order.specs.Cubes.{is_eq}

-- an equation between the level x and another one
abbrev pub equates : ℕ → Lit → Bool
equates x l = is_eq l.op && not (l.left == l.right) && ((l.left == x) || (l.right == x))

-- one of the literals says that x and the other level y are equal
abbrev pub Equates : List Lit → ℕ → ℕ → Type 0
Equates cube x y =
    (y ≢ x) × (Contains cube (record { op = Eq; left = x; right = y }) ⊎ Contains cube (record { op = Eq; left = y; right = x }))

-- y in place of x
abbrev pub renamed_level : ℕ → ℕ → ℕ → ℕ
renamed_level x y i = if i == x then y else i

abbrev pub renamed : ℕ → ℕ → Lit → Lit
renamed x y l = record { op = l.op; left = renamed_level x y l.left; right = renamed_level x y l.right }

-- the cubes hold at the same choices of atoms
abbrev pub AreEquivalentCubes : List Lit → List Lit → Type 0
AreEquivalentCubes k r = (c : List Atom) → cube_holds c r ≡ cube_holds c k
