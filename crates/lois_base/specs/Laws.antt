-- What holds of atoms, truth and values by their definitions alone.
use Rattle.std.specs.Prelude.{◌≡◌, ℕ, ◌<◌, ◌≤◌, Bool, true, List, ◌++◌, length, map, IsTrue, IsFalse, ◌⊎◌, ◌↔◌}
use Rattle.std.specs.List.{All}
use Rattle.lois_base.specs.Atom.{Atom, equal, below}
use Rattle.lois_base.specs.Data.{TermD, coll, CompsD, depth}
use Rattle.lois_base.specs.Fits.{ConstraintFits, Fits}
use Rattle.lois_base.specs.FormulaData.{FormulaD, FormulaFits}
use Rattle.lois_base.specs.FormulaTruth.{FormulaHolds}
use Rattle.lois_base.specs.Normal.{GuardUses, Occurs, Satisfies, IsNormal}
use Rattle.lois_base.specs.Patterns.{AreAlike}
use Rattle.lois_base.specs.AtomMaps.{AreEqualFor, AreEqual, IsEmbedding}
use Rattle.lois_base.specs.Truth.{holds, sampled}
use Rattle.lois_base.specs.Validity.{AdmitsConstraint, AdmitsTerm}
use Rattle.lois_base.specs.FormulaOperators.{AdmitsFormula}
use Rattle.lois_base.specs.Values.{PointValue, point, IsProper, IsSame, IsIn, IsIncluded, IsDeeper}
use Rattle.lois_base.specs.declared.guards.Lit.{Lit}

-- equality of atoms is an equivalence, and both tests answer the same of equal atoms
pub record EqualIsEquivalence : Type 0 where
  pub reflexive : (a : Atom) → IsTrue (equal a a)
  pub symmetric : (a b : Atom) → IsTrue (equal a b) → IsTrue (equal b a)
  pub transitive : (a b c : Atom) → IsTrue (equal a b) → IsTrue (equal b c) → IsTrue (equal a c)
  pub in_below : (a b c d : Atom) → IsTrue (equal a b) → IsTrue (equal c d) → below a c ≡ below b d

-- atoms are a dense total order without ends
pub record IsDenseOrder : Type 0 where
  pub total : (a b : Atom) → IsTrue (below a b) ⊎ (IsTrue (equal a b) ⊎ IsTrue (below b a))
  pub strict : (a b : Atom) → IsTrue (below a b) → IsFalse (equal a b) × IsFalse (below b a)
  pub transitive : (a b c : Atom) → IsTrue (below a b) → IsTrue (below b c) → IsTrue (below a c)
  pub dense : (a b : Atom) → IsTrue (below a b) → (m : Atom) × IsTrue (below a m) × IsTrue (below m b)
  pub no_least : (a : Atom) → (b : Atom) × IsTrue (below b a)
  pub no_greatest : (a : Atom) → (b : Atom) × IsTrue (below a b)

-- what is true at a choice is true at every choice with equal atoms
pub record TruthRespectsEqual : Type 0 where
  pub constraints : (g : List (List Lit)) (c d : List Atom) → AreEqual c d → holds c g ≡ holds d g
  pub formulas : (f : FormulaD) (c d : List Atom) → AreEqual c d → FormulaHolds c f → FormulaHolds d f

-- to be the same value is an equivalence
pub record SameIsEquivalence : Type 0 where
  pub reflexive : (v : PointValue) → IsSame v v
  pub symmetric : (v w : PointValue) → IsSame v w → IsSame w v
  pub transitive : (u v w : PointValue) → IsSame u v → IsSame v w → IsSame u w

-- values that are the same are in the same sets, have the same elements and the same depth
pub record SameIsRespected : Type 0 where
  pub by_elements : (u v w : PointValue) → IsSame u v → IsIn u w → IsIn v w
  pub by_sets : (u v w : PointValue) → IsSame v w → IsIn u v → IsIn u w
  pub by_inclusion : (v v' w w' : PointValue) → IsSame v v' → IsSame w w' → IsIncluded v w → IsIncluded v' w'
  pub by_depth : (v w : PointValue) (n : ℕ) → IsSame v w → IsDeeper v n → IsDeeper w n

-- sets are the same exactly where each is included in the other
abbrev pub SetsAreTheirMembers : Type 0
SetsAreTheirMembers =
    (ks ls : CompsD) (c d : List Atom) → IsSame (point (coll ks) c) (point (coll ls) d) ↔ (IsIncluded (point (coll ks) c) (point (coll ls) d) × IsIncluded (point (coll ls) d) (point (coll ks) c))

-- only the atoms at the levels that occur count
pub record OnlyItsLevelsCount : Type 0 where
  pub truth : (g : List (List Lit)) (c d : List Atom) → AreEqualFor (λ b. GuardUses b g) c d → holds c g ≡ holds d g
  pub values : (t : TermD) (c d : List Atom) → AreEqualFor (λ b. Occurs b t) c d → IsSame (point t c) (point t d)

-- Nothing counts but how the atoms stand to one another: which are equal and, where `<` or `<=` occurs, which are smaller.
pub record OnlyThePatternCounts : Type 0 where
  pub constraints : (ordered : Bool) (g : List (List Lit)) (c d : List Atom) → AreAlike ordered c d → ConstraintFits (length c) g → AdmitsConstraint ordered g → holds c g ≡ holds d g
  pub formulas : (ordered : Bool) (f : FormulaD) (c d : List Atom) → AreAlike ordered c d → FormulaFits (length c) f → AdmitsFormula ordered f → FormulaHolds c f → FormulaHolds d f
  pub values : (ordered : Bool) (t s : TermD) (c d c' d' : List Atom) → length c ≡ length c' → AreAlike ordered (c ++ d) (c' ++ d') → Fits (length c) t → Fits (length d) s → AdmitsTerm ordered t → AdmitsTerm ordered s → IsSame (point t c) (point s d) → IsSame (point t c') (point s d')

-- the value of the same term where a map has moved the atoms
abbrev pub mapped : (Atom → Atom) → PointValue → PointValue
mapped f v = point v.term_of (map f v.choice)

-- so every map of atoms that keeps equality, and order where `<` or `<=` occurs, keeps truth and sameness
pub record MapsKeepMeaning : Type 0 where
  pub constraints : (ordered : Bool) (f : Atom → Atom) → IsEmbedding ordered f → (g : List (List Lit)) (c : List Atom) → ConstraintFits (length c) g → AdmitsConstraint ordered g → holds c g ≡ holds (map f c) g
  pub formulas : (ordered : Bool) (f : Atom → Atom) → IsEmbedding ordered f → (g : FormulaD) (c : List Atom) → FormulaFits (length c) g → AdmitsFormula ordered g → FormulaHolds c g ↔ FormulaHolds (map f c) g
  pub values : (ordered : Bool) (f : Atom → Atom) → IsEmbedding ordered f → (v w : PointValue) → IsProper v → IsProper w → AdmitsTerm ordered v.term_of → AdmitsTerm ordered w.term_of → IsSame v w ↔ IsSame (mapped f v) (mapped f w)

-- each choice of k atoms has k numbers below k that stand alike, at which each constraint over k levels has the same truth
pub record SmallNumbersSuffice : Type 0 where
  pub numbers : (c : List Atom) → (s : List ℕ) × (length s ≡ length c) × All (λ n. n < length c) s × AreAlike true c (sampled s)
  pub truth : (c : List Atom) (s : List ℕ) → AreAlike true c (sampled s) → (g : List (List Lit)) → ConstraintFits (length c) g → holds c g ≡ holds (sampled s) g

-- A term that is normal where u holds, which some choice meets, and whose values there are nowhere deeper than d, is written at
-- most d deep.
abbrev pub NormalIsAsDeep : Type 0
NormalIsAsDeep =
    (t : TermD) (u : List (List Lit)) (n d : ℕ) → ConstraintFits n u → Fits n t → IsNormal t u n → ((c : List Atom) × Satisfies n u c) → ((c : List Atom) → Satisfies n u c → IsDeeper (point t c) d → ⊥) → depth t ≤ d
