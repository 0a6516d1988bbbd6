-- What holds as a loop goes over the cubes of a constraint, or over the parts of a formula.
use Rattle.std.proofs.Common.{◌≡◌, ℕ, ◌+◌, ◌<◌, ◌≤◌, Bool, true, false, ◌||◌, ◌⊎◌, inl, inr, ◌↔◌, List, [], ◌∷◌, ◌++◌, length, get_or, drop, map, sym, ap, subst, ◌∙◌}
use Rattle.std.specs.Bool.{IsTrue}
use Rattle.std.specs.List.{All}
use Rattle.std.proofs.lemmas.Bool.{false≢true}
use Rattle.std.proofs.lemmas.List.{drop_all}
use Rattle.std.proofs.lemmas.List.Elements.{All-head, All-tail, All-append}
use Rattle.std.proofs.lemmas.List.Folds.{list_any-append}
use Rattle.lois_base.specs.Atom.{Atom}
use Rattle.lois_base.specs.Fits.{CubeFits, ConstraintFits}
use Rattle.lois_base.specs.FormulaData.{FormulaD, any, FormulasD, no_formulas, formula, formulas_of, FormulaFits, FormulasFit}
use Rattle.lois_base.specs.FormulaTruth.{AnyHolds}
use Rattle.lois_base.specs.FormulaView.{view}
use Rattle.lois_base.specs.Theory.{Eliminates}
use Rattle.lois_base.specs.Truth.{cube_holds, holds}
use Rattle.lois_base.specs.Validity.{AdmitsCube, AdmitsConstraint}
use Rattle.lois_base.specs.FormulaOperators.{AdmitsFormula, AdmitsFormulas}
use Rattle.lois_base.specs.OrderFree.{IsOrderFreeCube, IsOrderFree}
use Rattle.lois_base.specs.declared.guards.Lit.{Lit}
use Rattle.lois_base.specs.declared.logic.Formula.{Formula}
use Rattle.lois_base.proofs.Connectives.{either_true}
use Rattle.lois_base.proofs.Validity.{constraint_admitted}
use Rattle.lois_base.proofs.Viewed.{rest_is}
use Rattle.lois_elim.specs.Bound.{HoldsForSome}
use Rattle.lois_elim.specs.Names.{named_atoms, AgreesUnder}

appended : (c : List Atom) (found part r : List (List Lit)) → r ≡ found ++ part → holds c r ≡ (holds c found || holds c part)
appended c found part r e = ap (holds c) e ∙ list_any-append (cube_holds c) found part

-- ---- the cubes of a constraint

-- some atom makes the constraint hold
abbrev pub SomeAtom : List Atom → List (List Lit) → Type 0
SomeAtom c g = (a : Atom) × IsTrue (holds (c ++ a ∷ []) g)

-- `found` stands for the cubes of g before `rest`
pub record CubesSoFar (n : ℕ) (g rest found : List (List Lit)) : Type 0 where
  pub truth : (c : List Atom) → length c ≡ n → (IsTrue (holds c found) ⊎ SomeAtom c rest) ↔ SomeAtom c g
  pub levels : ConstraintFits n found
  pub rest_fits : ConstraintFits (n + 1) rest
  pub operators : (o : Bool) → AdmitsConstraint o g → AdmitsConstraint o found × AdmitsConstraint o rest

-- a cube before others
split_atom : (c : List Atom) (k : List Lit) (rest : List (List Lit)) → SomeAtom c (k ∷ rest) → ((a : Atom) × IsTrue (cube_holds (c ++ a ∷ []) k)) ⊎ SomeAtom c rest
split_atom c k rest s =
    elim ((either_true (cube_holds (c ++ s.0 ∷ []) k) (holds (c ++ s.0 ∷ []) rest)).0 s.1) [ inl q ↦ inl (s.0, q) | inr q ↦ inr (s.0, q) ]

at_first : (c : List Atom) (k : List Lit) (rest : List (List Lit)) → ((a : Atom) × IsTrue (cube_holds (c ++ a ∷ []) k)) → SomeAtom c (k ∷ rest)
at_first c k rest s =
    (s.0, (either_true (cube_holds (c ++ s.0 ∷ []) k) (holds (c ++ s.0 ∷ []) rest)).1 (inl s.1))

at_later : (c : List Atom) (k : List Lit) (rest : List (List Lit)) → SomeAtom c rest → SomeAtom c (k ∷ rest)
at_later c k rest s =
    (s.0, (either_true (cube_holds (c ++ s.0 ∷ []) k) (holds (c ++ s.0 ∷ []) rest)).1 (inr s.1))

module _ (n : ℕ) (g : List (List Lit)) (k : List Lit) (rest found part r : List (List Lit)) where
  more_found : CubesSoFar n g (k ∷ rest) found → Eliminates n k part → r ≡ found ++ part → (c : List Atom) → length c ≡ n → IsTrue (holds c r) ⊎ SomeAtom c rest → SomeAtom c g
  more_found so_far eliminates e c count (inl p) =
      elim ((either_true (holds c found) (holds c part)).0 (sym (appended c found part r e) ∙ p)) [
        | inl q ↦ (so_far.truth c count).0 (inl q)
        | inr q ↦ (so_far.truth c count).0 (inr (at_first c k rest ((eliminates c count).0 q)))
      ]
  more_found so_far eliminates e c count (inr s) = (so_far.truth c count).0 (inr (at_later c k rest s))

  found_now : Eliminates n k part → r ≡ found ++ part → (c : List Atom) → length c ≡ n → IsTrue (holds c found) ⊎ SomeAtom c (k ∷ rest) → IsTrue (holds c r) ⊎ SomeAtom c rest
  found_now eliminates e c count (inl p) =
      inl (appended c found part r e ∙ (either_true (holds c found) (holds c part)).1 (inl p))
  found_now eliminates e c count (inr s) =
      elim (split_atom c k rest s) [
        | inl q ↦ inl (appended c found part r e ∙ (either_true (holds c found) (holds c part)).1 (inr ((eliminates c count).1 q)))
        | inr q ↦ inr q
      ]

-- with an order every operator is admitted, and without one the answer has no `<` where the cube has none
admits_each : (k : List Lit) (part : List (List Lit)) → (IsOrderFreeCube k → IsOrderFree part) → (o : Bool) → AdmitsCube o k → AdmitsConstraint o part
admits_each k part order true h = constraint_admitted part
admits_each k part order false h = order h

one_more_cube : (n : ℕ) (g : List (List Lit)) (k : List Lit) (rest found part r : List (List Lit)) → CubesSoFar n g (k ∷ rest) found → Eliminates n k part → ConstraintFits n part → (IsOrderFreeCube k → IsOrderFree part) → r ≡ found ++ part → CubesSoFar n g rest r
one_more_cube n g k rest found part r so_far eliminates levels order e = record {
  truth = λ c count. (more_found n g k rest found part r so_far eliminates e c count, λ s. found_now n g k rest found part r eliminates e c count ((so_far.truth c count).1 s));
  levels = subst (ConstraintFits n) (sym e) (All-append (CubeFits n) found part so_far.levels levels);
  rest_fits = All-tail (CubeFits (n + 1)) k rest so_far.rest_fits;
  operators = λ o h. let both = so_far.operators o h in
      (subst (AdmitsConstraint o) (sym e) (All-append (AdmitsCube o) found part both.0 (admits_each k part order o (All-head (AdmitsCube o) k rest both.1))), All-tail (AdmitsCube o) k rest both.1);
}

module _ (n : ℕ) (g xs found : List (List Lit)) (i : ℕ) (k : List Lit) (l : i < length xs) (is : k ≡ get_or xs i k) (so_far : CubesSoFar n g (drop i xs) found) where
  here : CubesSoFar n g (k ∷ drop (i + 1) xs) found
  here = subst (λ rest. CubesSoFar n g rest found) (rest_is xs i k l is) so_far

  pub cubes_go_on : (part r : List (List Lit)) → Eliminates n k part → ConstraintFits n part → (IsOrderFreeCube k → IsOrderFree part) → r ≡ found ++ part → CubesSoFar n g (drop (i + 1) xs) r
  cubes_go_on part r eliminates levels order e =
      one_more_cube n g k (drop (i + 1) xs) found part r here eliminates levels order e

only_found : (c : List Atom) (found : List (List Lit)) → IsTrue (holds c found) ⊎ SomeAtom c [] → IsTrue (holds c found)
only_found c found (inl p) = p
only_found c found (inr s) = absurd (false≢true s.1)

pub cubes_end : (n : ℕ) (g xs found r : List (List Lit)) (i : ℕ) → length xs ≤ i → CubesSoFar n g (drop i xs) found → ((c : List Atom) → holds c r ≡ holds c found) → HoldsForSome n g r
cubes_end n g xs found r i l so_far same c k =
    let done : CubesSoFar n g [] found = subst (λ rest. CubesSoFar n g rest found) (drop_all i xs l) so_far in
    (λ p. (done.truth c k).0 (inl (sym (same c) ∙ p)), λ s. same c ∙ only_found c found ((done.truth c k).1 s))

-- ---- the parts of a formula

-- `rest` are the parts that are left of `whole`, and r stands for those before
pub record PartsSoFar (n m : ℕ) (whole rest : FormulasD) (r : List (List Lit)) : Type 0 where
  pub rest_fits : FormulasFit m rest
  pub levels : ConstraintFits n r
  pub operators : (o : Bool) → AdmitsFormulas o whole → AdmitsConstraint o r × AdmitsFormulas o rest

-- one of the parts before `rest` holds exactly where r does
abbrev pub AnySoFar : ℕ → ℕ → List ℕ → FormulasD → FormulasD → List (List Lit) → Type 0
AnySoFar n free bound whole rest r =
    (c : List Atom) → length c ≡ n → (IsTrue (holds c r) ⊎ AnyHolds (named_atoms free bound c) rest) ↔ AnyHolds (named_atoms free bound c) whole

-- the parts of a list from an index on
abbrev pub parts_from : List Formula → ℕ → FormulasD
parts_from items i = formulas_of (map view (drop i items))

pub parts_are : (items : List Formula) (i : ℕ) (f : Formula) → i < length items → f ≡ get_or items i f → parts_from items i ≡ formula (view f) (parts_from items (i + 1))
parts_are items i f l is = ap (λ xs. formulas_of (map view xs)) (rest_is items i f l is)

pub no_parts : (items : List Formula) (i : ℕ) → length items ≤ i → parts_from items i ≡ no_formulas
no_parts items i l = ap (λ xs. formulas_of (map view xs)) (drop_all i items l)

pub one_more_part : (n m : ℕ) (whole rest : FormulasD) (f : FormulaD) (before r : List (List Lit)) → PartsSoFar n m whole (formula f rest) before → ConstraintFits n r → ((o : Bool) → AdmitsConstraint o before → AdmitsFormula o f → AdmitsConstraint o r) → PartsSoFar n m whole rest r
one_more_part n m whole rest f before r so_far levels operators = record {
  rest_fits = so_far.rest_fits.1;
  levels = levels;
  operators = λ o h. let both = so_far.operators o h in (operators o both.0 both.1.0, both.1.1);
}

module _ (n free : ℕ) (bound : List ℕ) (whole rest : FormulasD) (f : FormulaD) (before part r : List (List Lit)) where
  any_holds : AnySoFar n free bound whole (formula f rest) before → AgreesUnder n free bound f part → r ≡ before ++ part → (c : List Atom) → length c ≡ n → IsTrue (holds c r) ⊎ AnyHolds (named_atoms free bound c) rest → AnyHolds (named_atoms free bound c) whole
  any_holds so_far agrees e c k (inl p) =
      elim ((either_true (holds c before) (holds c part)).0 (sym (appended c before part r e) ∙ p)) [
        | inl q ↦ (so_far c k).0 (inl q)
        | inr q ↦ (so_far c k).0 (inr (inl ((agrees c k).0 q)))
      ]
  any_holds so_far agrees e c k (inr s) = (so_far c k).0 (inr (inr s))

  any_now : AgreesUnder n free bound f part → r ≡ before ++ part → (c : List Atom) → length c ≡ n → IsTrue (holds c before) ⊎ AnyHolds (named_atoms free bound c) (formula f rest) → IsTrue (holds c r) ⊎ AnyHolds (named_atoms free bound c) rest
  any_now agrees e c k (inl p) =
      inl (appended c before part r e ∙ (either_true (holds c before) (holds c part)).1 (inl p))
  any_now agrees e c k (inr (inl s)) =
      inl (appended c before part r e ∙ (either_true (holds c before) (holds c part)).1 (inr ((agrees c k).1 s)))
  any_now agrees e c k (inr (inr s)) = inr s

  pub any_one_more : AnySoFar n free bound whole (formula f rest) before → AgreesUnder n free bound f part → r ≡ before ++ part → AnySoFar n free bound whole rest r
  any_one_more so_far agrees e c k =
      (any_holds so_far agrees e c k, λ h. any_now agrees e c k ((so_far c k).1 h))

no_more : (c u : List Atom) (r : List (List Lit)) → IsTrue (holds c r) ⊎ AnyHolds u no_formulas → IsTrue (holds c r)
no_more c u r (inl p) = p
no_more c u r (inr s) = absurd s

pub any_end : (n free : ℕ) (bound : List ℕ) (whole : FormulasD) (before r : List (List Lit)) → AnySoFar n free bound whole no_formulas before → ((c : List Atom) → holds c r ≡ holds c before) → AgreesUnder n free bound (any whole) r
any_end n free bound whole before r so_far same c k =
    (λ p. (so_far c k).0 (inl (sym (same c) ∙ p)), λ h. same c ∙ no_more c (named_atoms free bound c) before ((so_far c k).1 h))

-- ---- from one part of a list to the next
module _ (n free : ℕ) (bound : List ℕ) (whole : FormulasD) (items : List Formula) (i : ℕ) (f : Formula) (l : i < length items) (is : f ≡ get_or items i f) (before : List (List Lit)) where
  parts_here : PartsSoFar n (free + length bound) whole (parts_from items i) before → PartsSoFar n (free + length bound) whole (formula (view f) (parts_from items (i + 1))) before
  parts_here = subst (λ rest. PartsSoFar n (free + length bound) whole rest before) (parts_are items i f l is)

  pub part_fits : PartsSoFar n (free + length bound) whole (parts_from items i) before → FormulaFits (free + length bound) (view f)
  part_fits so_far = (parts_here so_far).rest_fits.0

  pub part_admitted : PartsSoFar n (free + length bound) whole (parts_from items i) before → (o : Bool) → AdmitsFormulas o whole → AdmitsFormula o (view f)
  part_admitted so_far o h = ((parts_here so_far).operators o h).1.0

  pub parts_go_on : (r : List (List Lit)) → PartsSoFar n (free + length bound) whole (parts_from items i) before → ConstraintFits n r → ((o : Bool) → AdmitsConstraint o before → AdmitsFormula o (view f) → AdmitsConstraint o r) → PartsSoFar n (free + length bound) whole (parts_from items (i + 1)) r
  parts_go_on r so_far = one_more_part n (free + length bound) whole (parts_from items (i + 1)) (view f) before r (parts_here so_far)

  pub any_go_on : (part r : List (List Lit)) → AnySoFar n free bound whole (parts_from items i) before → AgreesUnder n free bound (view f) part → r ≡ before ++ part → AnySoFar n free bound whole (parts_from items (i + 1)) r
  any_go_on part r so_far =
      any_one_more n free bound whole (parts_from items (i + 1)) (view f) before part r (subst (λ rest. AnySoFar n free bound whole rest before) (parts_are items i f l is) so_far)

  -- a part that holds everywhere is the whole
  pub any_everywhere : (part : List (List Lit)) → AnySoFar n free bound whole (parts_from items i) before → AgreesUnder n free bound (view f) part → part ≡ [] ∷ [] → AgreesUnder n free bound (any whole) part
  any_everywhere part so_far agrees always c k =
      let here : AnySoFar n free bound whole (formula (view f) (parts_from items (i + 1))) before = subst (λ rest. AnySoFar n free bound whole rest before) (parts_are items i f l is) so_far in
      (λ p. (here c k).0 (inr (inl ((agrees c k).0 p))), λ h. ap (holds c) always)

-- what both obey, the one with the other behind it obeys
pub appended_obeys : (P : List Lit → Type 0) (before part r : List (List Lit)) → r ≡ before ++ part → All P before → All P part → All P r
appended_obeys P before part r e h k = subst (All P) (sym e) (All-append P before part h k)
