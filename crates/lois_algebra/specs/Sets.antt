-- What the members are of the sets that the operations make, and where a value is deep.
use Rattle.std.specs.Prelude.{◌≡◌, ℕ, List, length, ◌↔◌, ◌⊎◌}
use Rattle.lois_base.specs.Atom.{Atom}
use Rattle.lois_base.specs.Data.{TermD, var, coll, comp, CompsD, no_comps, more}
use Rattle.lois_base.specs.FormulaData.{FormulaD}
use Rattle.lois_base.specs.FormulaTruth.{FormulaHolds}
use Rattle.lois_base.specs.Values.{PointValue, point, IsIn, IsDeeper}
use Rattle.lois_terms.specs.Collections.{IsColl}

-- at each choice r has exactly the members of s and those of t
abbrev pub IsUnion : TermD → TermD → TermD → Type 0
IsUnion s t r =
    (c : List Atom) (w : PointValue) → IsIn w (point r c) ↔ (IsIn w (point s c) ⊎ IsIn w (point t c))

-- at each choice of n atoms r has exactly the members that both s and t have
abbrev pub IsIntersection : ℕ → TermD → TermD → TermD → Type 0
IsIntersection n s t r =
    (c : List Atom) → length c ≡ n → (w : PointValue) → IsIn w (point r c) ↔ (IsIn w (point s c) × IsIn w (point t c))

-- at each choice of n atoms r has exactly the members of s that t doesn't have
abbrev pub IsDifference : ℕ → TermD → TermD → TermD → Type 0
IsDifference n s t r =
    (c : List Atom) → length c ≡ n → (w : PointValue) → IsIn w (point r c) ↔ (IsIn w (point s c) × (IsIn w (point t c) → ⊥))

abbrev pub IsAtom : PointValue → Type 0
IsAtom w = (i : ℕ) × (w.term_of ≡ var i)

-- at each choice of n atoms r has exactly the atoms as its members
abbrev pub HasAllAtoms : ℕ → TermD → Type 0
HasAllAtoms n r = (c : List Atom) → length c ≡ n → (w : PointValue) → IsIn w (point r c) ↔ IsAtom w

-- at each choice of n atoms r has exactly the members of the members of s
abbrev pub IsUnionOfMembers : ℕ → TermD → TermD → Type 0
IsUnionOfMembers n s r =
    (c : List Atom) → length c ≡ n → (w : PointValue) → IsIn w (point r c) ↔ ((v : PointValue) × IsIn v (point s c) × IsIn w v)

-- each item of a set is a set
abbrev pub ItemsAreSets : CompsD → Type 0
ItemsAreSets no_comps = Unit {0}
ItemsAreSets (more (comp m g t) ks) = IsColl t × ItemsAreSets ks

abbrev pub IsSetOfSets : TermD → Type 0
IsSetOfSets t = (ks : CompsD) × (t ≡ coll ks) × ItemsAreSets ks

-- at each choice of n atoms the formula holds exactly where the value of t is deeper than the limit
abbrev pub HoldsWhereDeeper : ℕ → TermD → ℕ → FormulaD → Type 0
HoldsWhereDeeper n t limit f = (c : List Atom) → length c ≡ n → FormulaHolds c f ↔ IsDeeper (point t c) limit
