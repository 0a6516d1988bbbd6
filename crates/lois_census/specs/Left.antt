-- Items in orbits, and what private contracts say of comprehensions: what is taken from one, what is left of it.
use Rattle.std.specs.Prelude.{◌≡◌, ◌⊎◌, ℕ, Bool, List, [], ◌++◌, length, IsTrue, IsFalse, ◌↔◌}
use Rattle.std.specs.List.{All, Any}
use Rattle.lois_base.specs.Atom.{Atom}
use Rattle.lois_base.specs.Data.{TermD, CompD, comp}
use Rattle.lois_base.specs.Truth.{holds}
use Rattle.lois_base.specs.Validity.{AdmitsTerm}
use Rattle.lois_base.specs.Values.{point, IsExtension}
use Rattle.lois_base.specs.declared.guards.Lit.{Lit}
use Rattle.lois_census.specs.OrbitData.{OrbitD}
use Rattle.lois_census.specs.Orbits.{IsInOrbit, IsInListedOrbit, FitsSample, IsTakenFrom}

-- the orbit is taken from one of them
abbrev pub IsTakenFromSome : Bool → List CompD → OrbitD → Type 0
IsTakenFromSome ordered ks o = Any (λ k. IsTakenFrom ordered k o) ks

-- each item of the comprehension, at each choice of its binders that its guard admits, is in one of the orbits
abbrev pub IsCoveredByOrbits : Bool → List OrbitD → CompD → Type 0
IsCoveredByOrbits ordered os (comp m g t) =
    (e : List Atom) → IsExtension [] m g e → IsInListedOrbit ordered os (point t e)

-- ys are xs and more of which P holds
abbrev pub AddsOnly : (OrbitD → Type 0) → List OrbitD → List OrbitD → Type 0
AddsOnly P xs ys = (zs : List OrbitD) × (ys ≡ xs ++ zs) × All P zs

-- what a listed orbit keeps
pub record IsUsable (ordered : Bool) (o : OrbitD) : Type 0 where
  pub levels : FitsSample o
  pub operators : AdmitsTerm ordered o.item

-- at each choice of n atoms the constraint holds exactly where the term's value is in the orbit
abbrev pub HoldsWhereInOrbit : Bool → ℕ → TermD → OrbitD → List (List Lit) → Type 0
HoldsWhereInOrbit ordered n t o r =
    (e : List Atom) → length e ≡ n → IsTrue (holds e r) ↔ IsInOrbit ordered (point t e) o

-- at each choice of n atoms the constraint holds exactly where the term's value is in one of the orbits
abbrev pub HoldsWhereListed : Bool → ℕ → TermD → List OrbitD → List (List Lit) → Type 0
HoldsWhereListed ordered n t os r =
    (e : List Atom) → length e ≡ n → IsTrue (holds e r) ↔ IsInListedOrbit ordered os (point t e)

-- at each choice of n atoms r holds exactly where the constraint u does or the term's value is in the orbit
abbrev pub HoldsOrInOrbit : Bool → ℕ → TermD → OrbitD → List (List Lit) → List (List Lit) → Type 0
HoldsOrInOrbit ordered n t o u r =
    (e : List Atom) → length e ≡ n → IsTrue (holds e r) ↔ (IsTrue (holds e u) ⊎ IsInOrbit ordered (point t e) o)

-- what is left holds only where there was something, and what isn't left was taken
pub record IsLeftOf (taken before left : Bool) : Type 0 where
  pub within : IsTrue left → IsTrue before
  pub gone : IsTrue before → IsFalse left → IsTrue taken

-- at each choice of n atoms at which r doesn't hold and the guard does, the term's value is in one of the orbits
pub record IsRemainder (ordered : Bool) (n : ℕ) (g : List (List Lit)) (t : TermD) (os : List OrbitD) (r : List (List Lit)) : Type 0 where
  pub within : (e : List Atom) → length e ≡ n → IsTrue (holds e r) → IsTrue (holds e g)
  pub taken : (e : List Atom) → length e ≡ n → IsTrue (holds e g) → IsFalse (holds e r) → IsInListedOrbit ordered os (point t e)
