-- What is known of the items of two sets before their inclusions are asked for.
use Rattle.std.specs.Global.{Vec}
use Rattle.std.specs.Prelude.{◌≡◌, ℕ, ◌+◌, Some, List, ◌++◌, length, ◌↔◌, Bool, IsTrue, slice_get, Contains}
use Rattle.std.specs.List.{All}
use Rattle.lois_base.specs.Atom.{Atom}
use Rattle.lois_base.specs.Data.{CompD, comp, CompsD}
use Rattle.lois_base.specs.FormulaData.{FormulaD, FormulaFits}
use Rattle.lois_base.specs.FormulaTruth.{FormulaHolds}
use Rattle.lois_base.specs.FormulaView.{view}
use Rattle.lois_base.specs.Truth.{holds}
use Rattle.lois_base.specs.Validity.{AdmitsConstraint, AdmitsComp, AdmitsItems}
use Rattle.lois_base.specs.FormulaOperators.{AdmitsFormula}
use Rattle.lois_base.specs.Values.{SameAt, SomeIsAt, OneIsAt}
use Rattle.lois_base.specs.declared.guards.Lit.{Lit}
use Rattle.lois_relate.specs.declared.comparing.Pair.{Pair}
use Rattle.lois_relate.specs.Built.{Defines}
use Rattle.lois_relate.specs.Named.{atoms_named, level_range}

-- r holds where f does
pub record IsEquivalentFormula (n : ℕ) (f r : FormulaD) : Type 0 where
  pub truth : (c : List Atom) → length c ≡ n → FormulaHolds c r ↔ FormulaHolds c f
  pub levels : FormulaFits n r
  pub operators : (o : Bool) → AdmitsFormula o f → AdmitsFormula o r

-- r holds where f does with two blocks of further atoms in the other order
pub record IsLevelSwap (n m k : ℕ) (f r : FormulaD) : Type 0 where
  pub truth : (c d e : List Atom) → length c ≡ n → length d ≡ m → length e ≡ k → FormulaHolds (c ++ e ++ d) r ↔ FormulaHolds (c ++ d ++ e) f
  pub levels : FormulaFits ((n + k) + m) r
  pub operators : (o : Bool) → AdmitsFormula o f → AdmitsFormula o r

-- r holds where f does for all m further atoms at which a guard with these names holds
pub record IsForEach (n m : ℕ) (names : List ℕ) (g : List (List Lit)) (f r : FormulaD) : Type 0 where
  pub truth : (c : List Atom) → length c ≡ n → FormulaHolds c r ↔ ((e : List Atom) → length e ≡ m → IsTrue (holds (atoms_named names (c ++ e)) g) → FormulaHolds (c ++ e) f)
  pub levels : FormulaFits n r
  pub operators : (o : Bool) → AdmitsConstraint o g → AdmitsFormula o f → AdmitsFormula o r

-- the names of n levels, of m behind k others, and of those k
abbrev pub turned_names : ℕ → ℕ → ℕ → List ℕ
turned_names n m k = (level_range 0 n ++ level_range (n + k) m) ++ level_range n k

-- over n levels, the binders of the one comprehension and then those of the other, f says where both guards hold and both items are the same
abbrev pub DefinesPaired : ℕ → List ℕ → CompD → List ℕ → CompD → FormulaD → Type 0
DefinesPaired n sn (comp k h s) tn (comp m g t) =
    Defines ((n + k) + m) (λ c. IsTrue (holds (atoms_named (sn ++ level_range n k) c) h) × IsTrue (holds (atoms_named (tn ++ level_range (n + k) m) c) g) × SameAt t (atoms_named (tn ++ level_range (n + k) m) c) s (atoms_named (sn ++ level_range n k) c)) (λ o. AdmitsComp o (comp k h s) × AdmitsComp o (comp m g t))

-- over n levels and the binders of the first comprehension, f says where its guard holds and its item is one of the other's
abbrev pub DefinesItem : ℕ → List ℕ → CompD → List ℕ → CompD → FormulaD → Type 0
DefinesItem n sn (comp k h s) tn q =
    Defines (n + k) (λ c. IsTrue (holds (atoms_named (sn ++ level_range n k) c) h) × OneIsAt q (atoms_named tn c) s (atoms_named (sn ++ level_range n k) c)) (λ o. AdmitsComp o (comp k h s) × AdmitsComp o q)

-- the same of a set
abbrev pub DefinesFound : ℕ → List ℕ → CompD → List ℕ → CompsD → FormulaD → Type 0
DefinesFound n sn (comp k h s) tn qs =
    Defines (n + k) (λ c. IsTrue (holds (atoms_named (sn ++ level_range n k) c) h) × SomeIsAt qs (atoms_named tn c) s (atoms_named (sn ++ level_range n k) c)) (λ o. AdmitsComp o (comp k h s) × AdmitsItems o qs)

-- row i has f for the place j
abbrev pub IsTableEntry : List (Vec Pair) → ℕ → ℕ → FormulaD → Type 0
IsTableEntry rows i j f = (row : Vec Pair) × (slice_get rows i ≡ Some row) × (p : Pair) × Contains row.items p × (p.place ≡ j) × (view p.there ≡ f)

-- what each row has for that place says where the comprehension q is paired with the row's
abbrev pub IsCached : ℕ → List CompD → List ℕ → CompD → List ℕ → List (Vec Pair) → ℕ → Type 0
IsCached n ks tn q sn rows j =
    (i : ℕ) (k : CompD) (f : FormulaD) → slice_get ks i ≡ Some k → IsTableEntry rows i j f → DefinesPaired n sn q tn k f

-- the pair says where the comprehension k is paired with the one at its place
abbrev pub SaysPaired : ℕ → CompD → List ℕ → List CompD → List ℕ → Pair → Type 0
SaysPaired n k tn qs sn p =
    (q : CompD) → slice_get qs p.place ≡ Some q → DefinesPaired n sn q tn k (view p.there)

-- the row of the comprehension k
abbrev pub IsRow : ℕ → CompD → List ℕ → List CompD → List ℕ → List Pair → Type 0
IsRow n k tn qs sn = All (SaysPaired n k tn qs sn)

-- the rows of the comprehensions ks, each beside some of qs
abbrev pub AreRows : ℕ → List CompD → List ℕ → List CompD → List ℕ → List (Vec Pair) → Type 0
AreRows n ks tn qs sn rows =
    (i : ℕ) (k : CompD) (row : Vec Pair) → slice_get ks i ≡ Some k → slice_get rows i ≡ Some row → IsRow n k tn qs sn row.items
