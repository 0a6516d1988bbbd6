-- Constraints that hold alike where another one does.
use Rattle.std.specs.Prelude.{ℕ, Bool, List, IsTrue}
use Rattle.std.specs.List.{All}
use Rattle.lois_base.specs.Atom.{Atom}
use Rattle.lois_base.specs.Fits.{CubeFits, ConstraintFits}
use Rattle.lois_base.specs.Normal.{GuardUses}
use Rattle.lois_base.specs.Truth.{cube_holds, holds}
use Rattle.lois_base.specs.Validity.{AdmitsCube, AdmitsConstraint}
use Rattle.lois_base.specs.declared.guards.Lit.{Lit}

-- wherever u and c hold, g holds
abbrev pub EntailsUnder : List (List Lit) → List (List Lit) → List (List Lit) → Type 0
EntailsUnder u c g = (e : List Atom) → IsTrue (holds e u) → IsTrue (holds e c) → IsTrue (holds e g)

-- wherever u and the cube hold, g holds
abbrev pub CubeEntailsUnder : List (List Lit) → List Lit → List (List Lit) → Type 0
CubeEntailsUnder u k g = (e : List Atom) → IsTrue (holds e u) → IsTrue (cube_holds e k) → IsTrue (holds e g)

-- r has fewer literals than the cube k, and yet holds only where g does, as far as u holds
pub record IsWeakenedCube (u g : List (List Lit)) (k r : List Lit) : Type 0 where
  pub weaker : (e : List Atom) → IsTrue (cube_holds e k) → IsTrue (cube_holds e r)
  pub within : CubeEntailsUnder u r g
  pub levels : (n : ℕ) → CubeFits n k → CubeFits n r
  pub operators : (ordered : Bool) → AdmitsCube ordered k → AdmitsCube ordered r

-- r has fewer cubes and literals than g, and yet holds at the same choices wherever u does
pub record IsShortened (u g r : List (List Lit)) : Type 0 where
  pub there : EntailsUnder u g r
  pub back : EntailsUnder u r g
  pub levels : (n : ℕ) → ConstraintFits n g → ConstraintFits n r
  pub operators : (ordered : Bool) → AdmitsConstraint ordered g → AdmitsConstraint ordered r

-- the guard speaks of both levels of the literal
pub record SpeaksOfBoth (g : List (List Lit)) (l : Lit) : Type 0 where
  pub left : GuardUses l.left g
  pub right : GuardUses l.right g

abbrev pub SpeaksOfAll : List (List Lit) → List (List Lit) → Type 0
SpeaksOfAll g = All (All (SpeaksOfBoth g))
