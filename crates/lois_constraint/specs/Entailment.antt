-- Cubes that some choice of atoms meets, and cubes that entail others.
use Rattle.std.specs.Prelude.{List, IsTrue}
use Rattle.std.specs.List.{All, AllPairs}
use Rattle.lois_base.specs.Atom.{Atom}
use Rattle.lois_base.specs.Truth.{cube_holds}
use Rattle.lois_base.specs.declared.guards.Lit.{Lit}

-- the cube holds at some choice
abbrev pub CubeIsSatisfiable : List Lit → Type 0
CubeIsSatisfiable k = (c : List Atom) × IsTrue (cube_holds c k)

-- an entails b: b holds wherever a does
abbrev pub Entails : List Lit → List Lit → Type 0
Entails a b = (c : List Atom) → IsTrue (cube_holds c a) → IsTrue (cube_holds c b)

-- neither entails the other
abbrev pub AreIncomparable : List Lit → List Lit → Type 0
AreIncomparable a b = (Entails a b → ⊥) × (Entails b a → ⊥)

-- each cube can be met, and none entails another
pub record IsPruned (g : List (List Lit)) : Type 0 where
  pub met : All CubeIsSatisfiable g
  pub apart : AllPairs AreIncomparable g
