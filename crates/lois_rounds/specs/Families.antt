-- Families as contracts see them, and how two families stand to one another.
use Rattle.std.specs.Prelude.{◌≡◌, ℕ, Bool, List, length, map, IsTrue}
use Rattle.std.specs.List.{All, AllZip}
use Rattle.lois_base.specs.Atom.{Atom}
use Rattle.lois_base.specs.Fits.{ConstraintFits}
use Rattle.lois_base.specs.Truth.{holds}
use Rattle.lois_base.specs.Validity.{AdmitsConstraint}
use Rattle.lois_base.specs.declared.guards.Lit.{Lit}

-- a size and a constraint
abbrev pub MemberD : Type 0
MemberD = ℕ × List (List Lit)

abbrev pub FamilyD : Type 0
FamilyD = List MemberD

-- each level of the constraint is below the size
abbrev pub MemberFits : MemberD → Type 0
MemberFits m = ConstraintFits m.0 m.1

abbrev pub FamilyFits : FamilyD → Type 0
FamilyFits = All MemberFits

abbrev pub sizes : FamilyD → List ℕ
sizes = map (λ m. m.0)

-- only admitted operators occur
abbrev pub AdmitsFamily : Bool → FamilyD → Type 0
AdmitsFamily ordered = All (λ m. AdmitsConstraint ordered m.1)

-- the same size k, and the same truth at each choice of k atoms
pub record IsEquivalent (m n : MemberD) : Type 0 where
  pub size : m.0 ≡ n.0
  pub truth : (c : List Atom) → length c ≡ m.0 → holds c m.1 ≡ holds c n.1

-- the same size k, and n holds at each choice of k atoms at which m does
pub record IsWeakened (m n : MemberD) : Type 0 where
  pub size : m.0 ≡ n.0
  pub truth : (c : List Atom) → length c ≡ m.0 → IsTrue (holds c m.1) → IsTrue (holds c n.1)

-- member by member
abbrev pub AreEquivalent : FamilyD → FamilyD → Type 0
AreEquivalent = AllZip IsEquivalent

abbrev pub AreWeakened : FamilyD → FamilyD → Type 0
AreWeakened = AllZip IsWeakened
