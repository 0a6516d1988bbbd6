-- Levels eliminated one after another.
use Rattle.std.proofs.Common.{◌≡◌, ℕ, zero, suc, ◌+◌, ◌-◌, ◌<◌, ◌≤◌, ◌⊎◌, inl, inr, Bool, true, false, ◌||◌, List, [], ◌∷◌, ◌++◌, length, get_or, take, refl, sym, ap, ◌∙◌, subst, arith, length-append}
use Rattle.std.proofs.lemmas.List.{get_or_append_left, get_or_push, get_or_default}
use Rattle.std.proofs.lemmas.Bool.{cases_lt}
use Rattle.std.proofs.lemmas.List.Folds.{list_any_more}
use Rattle.std.specs.Bool.{IsTrue, IsFalse}
use Rattle.lois_base.specs.Atom.{Atom}
use Rattle.lois_base.specs.Fits.{ConstraintFits}
use Rattle.lois_base.specs.Theory.{Eliminates, IsSatisfiable}
use Rattle.lois_base.specs.Truth.{cube_holds, holds, sampled}
use Rattle.lois_base.specs.declared.guards.Lit.{Lit}
use Rattle.lois_deciders.specs.Satisfiability.{ConstraintIsSatisfiable}
use Rattle.lois_base.specs.Bound.{SomeAtomMeets, HoldsForSome}
use Rattle.lois_base.proofs.Booleans.{or_second}
use Rattle.lois_deciders.specs.Stages.{AreStages}

either : (p q : Bool) → IsTrue (p || q) → IsTrue p ⊎ IsTrue q
either true q h = inl refl
either false q h = inr h

first_or : (p q : Bool) → IsTrue p → IsTrue (p || q)
first_or true q h = refl
first_or false q h = absurd (cc)

-- ---- the cubes of a constraint, without the level
module _ (n : ℕ) (found r part xs : List (List Lit)) (i : ℕ) (k : List Lit) (l : i < length xs) (is : k ≡ get_or xs i k) (e : (c : List Atom) → holds c r ≡ (holds c found || holds c part)) (eliminates : Eliminates n k part) (so_far : HoldsForSome n (take i xs) found) where
  read : (c : List Atom) → holds c (take (i + 1) xs) ≡ (holds c (take i xs) || cube_holds c k)
  read c = list_any_more (cube_holds c) xs i k l ∙ ap (λ y. holds c (take i xs) || cube_holds c y) (sym is)

  some_meets : (c : List Atom) → length c ≡ n → IsTrue (holds c r) → SomeAtomMeets c (take (i + 1) xs)
  some_meets c count h = go (either (holds c found) (holds c part) (sym (e c) ∙ h))
    where
      go : IsTrue (holds c found) ⊎ IsTrue (holds c part) → SomeAtomMeets c (take (i + 1) xs)
      go (inl p) =
          let m = (so_far c count).0 p in
          (m.0, read (c ++ m.0 ∷ []) ∙ first_or (holds (c ++ m.0 ∷ []) (take i xs)) (cube_holds (c ++ m.0 ∷ []) k) m.1)
      go (inr p) =
          let m = (eliminates c count).0 p in
          (m.0, read (c ++ m.0 ∷ []) ∙ or_second (holds (c ++ m.0 ∷ []) (take i xs)) (cube_holds (c ++ m.0 ∷ []) k) m.1)

  rest_holds : (c : List Atom) → length c ≡ n → SomeAtomMeets c (take (i + 1) xs) → IsTrue (holds c r)
  rest_holds c count m = go (either (holds (c ++ m.0 ∷ []) (take i xs)) (cube_holds (c ++ m.0 ∷ []) k) (sym (read (c ++ m.0 ∷ [])) ∙ m.1))
    where
      go : IsTrue (holds (c ++ m.0 ∷ []) (take i xs)) ⊎ IsTrue (cube_holds (c ++ m.0 ∷ []) k) → IsTrue (holds c r)
      go (inl p) = e c ∙ first_or (holds c found) (holds c part) ((so_far c count).1 (m.0, p))
      go (inr p) = e c ∙ or_second (holds c found) (holds c part) ((eliminates c count).1 (m.0, p))

  pub one_cube_more : HoldsForSome n (take (i + 1) xs) r
  one_cube_more c count = (some_meets c count, rest_holds c count)

-- ---- one more stage
module _ (n done : ℕ) (g next : List (List Lit)) (stages : List (List (List Lit))) (h : AreStages n g done stages) (step : HoldsForSome (n - done - 1) (get_or stages done []) next) (fits : ConstraintFits (n - done - 1) next) where
  before : (k : ℕ) → k ≤ done → get_or (stages ++ next ∷ []) k [] ≡ get_or stages k []
  before k l = get_or_append_left stages (next ∷ []) [] k (omega (arith, h.count))

  last : get_or (stages ++ next ∷ []) (done + 1) [] ≡ next
  last = get_or_push stages next [] (done + 1) h.count

  levels_at : (k : ℕ) → k ≤ done + 1 → (k ≤ done) ⊎ (done + 1 ≡ k) → ConstraintFits (n - k) (get_or (stages ++ next ∷ []) k [])
  levels_at k l (inl m) = subst (ConstraintFits (n - k)) (sym (before k m)) (h.levels k m)
  levels_at k l (inr e) =
      let same : n - done - 1 ≡ n - k = omega arith in
      subst (λ j. ConstraintFits (n - k) (get_or (stages ++ next ∷ []) j [])) e (subst (ConstraintFits (n - k)) (sym last) (subst (λ m. ConstraintFits m next) same fits))

  step_at : (k : ℕ) → k < done + 1 → (k < done) ⊎ (done ≡ k) → HoldsForSome (n - k - 1) (get_or (stages ++ next ∷ []) k []) (get_or (stages ++ next ∷ []) (k + 1) [])
  step_at k l (inl m) =
      subst (λ x. HoldsForSome (n - k - 1) x (get_or (stages ++ next ∷ []) (k + 1) [])) (sym (before k (omega arith))) (subst (HoldsForSome (n - k - 1) (get_or stages k [])) (sym (before (k + 1) (omega arith))) (h.steps k m))
  step_at k l (inr e) =
      subst (λ j. HoldsForSome (n - j - 1) (get_or (stages ++ next ∷ []) j []) (get_or (stages ++ next ∷ []) (j + 1) [])) e (subst (λ x. HoldsForSome (n - done - 1) x (get_or (stages ++ next ∷ []) (done + 1) [])) (sym (before done (omega arith))) (subst (HoldsForSome (n - done - 1) (get_or stages done [])) (sym last) step))

  pub one_stage_more : AreStages n g (done + 1) (stages ++ next ∷ [])
  one_stage_more = record {
    count = omega (arith, length-append stages (next ∷ []), h.count);
    first = before 0 (omega arith) ∙ h.first;
    levels = λ k l. levels_at k l (up_or_at k l (cases_lt k (done + 1)));
    steps = λ k l. step_at k l (below_or_at k l (cases_lt k done));
  }
    where
      up_or_at : (k : ℕ) → k ≤ done + 1 → (k < done + 1) ⊎ (done + 1 ≤ k) → (k ≤ done) ⊎ (done + 1 ≡ k)
      up_or_at k l (inl m) = inl (omega arith)
      up_or_at k l (inr m) = inr (omega arith)

      below_or_at : (k : ℕ) → k < done + 1 → (k < done) ⊎ (done ≤ k) → (k < done) ⊎ (done ≡ k)
      below_or_at k l (inl m) = inl m
      below_or_at k l (inr m) = inr (omega arith)

-- ---- what can be met can be met with a level less
record IsSplit (c : List Atom) (n : ℕ) : Type 0 where
  front : List Atom
  end : Atom
  count : length front ≡ n
  is : c ≡ front ++ end ∷ []

split : (c : List Atom) (n : ℕ) → length c ≡ n + 1 → IsSplit c n
split [] n e = absurd (omega (arith, e))
split (x ∷ []) n e = record { front = []; end = x; count = omega (arith, e); is = refl }
split (x ∷ (y ∷ c)) zero e = absurd (omega (arith, e))
split (x ∷ (y ∷ c)) (suc n) e =
    let r = split (y ∷ c) n (omega (arith, e)) in
    record { front = x ∷ r.front; end = r.end; count = omega (arith, r.count); is = ap (λ z. x ∷ z) r.is }

met_below : (n : ℕ) (g r : List (List Lit)) → HoldsForSome n g r → ConstraintIsSatisfiable (n + 1) g → ConstraintIsSatisfiable n r
met_below n g r step met =
    let parts = split met.0 n met.1 in
    (parts.front, parts.count, (step parts.front parts.count).1 (parts.end, subst (λ c. IsTrue (holds c g)) parts.is met.2))

module _ (n : ℕ) (g : List (List Lit)) (stages : List (List (List Lit))) (h : AreStages n g n stages) where
  met_at : (k : ℕ) → k ≤ n → ConstraintIsSatisfiable n g → ConstraintIsSatisfiable (n - k) (get_or stages k [])
  met_at zero l met =
      let e : n ≡ n - 0 = omega arith in
      subst (λ j. ConstraintIsSatisfiable j (get_or stages 0 [])) e (subst (ConstraintIsSatisfiable n) (sym h.first) met)
  met_at (suc k) l met =
      let m : n - k ≡ (n - k - 1) + 1 = omega arith in
      let e : n - k - 1 ≡ n - suc k = omega arith in
      let e' : k + 1 ≡ suc k = omega arith in
      let r = met_below (n - k - 1) (get_or stages k []) (get_or stages (k + 1) []) (h.steps k (omega arith)) (subst (λ j. ConstraintIsSatisfiable j (get_or stages k [])) m (met_at k (omega arith) met)) in
      subst (λ j. ConstraintIsSatisfiable j (get_or stages (suc k) [])) e (subst (λ i. ConstraintIsSatisfiable (n - k - 1) (get_or stages i [])) e' r)

  no_atoms : (c : List Atom) → length c ≡ n - n → c ≡ []
  no_atoms [] l = refl
  no_atoms (x ∷ c) l = absurd (omega (arith, l))

  -- where the last stage fails without atoms
  pub never_met : IsFalse (holds [] (get_or stages n [])) → ConstraintIsSatisfiable n g → ⊥
  never_met fails met =
      let m = met_at n (omega arith) met in
      let yes : holds [] (get_or stages n []) ≡ true = subst (λ c. IsTrue (holds c (get_or stages n []))) (no_atoms m.0 m.1) m.2 in
      let no : holds [] (get_or stages n []) ≡ false = fails in
      cc

  module _ (level : ℕ) (l : level < n) (s : List ℕ) (count : length (sampled s) ≡ level) (holds_here : IsTrue (holds (sampled s) (get_or stages (n - level) []))) where
    pub some_atom : SomeAtomMeets (sampled s) (get_or stages (n - level - 1) [])
    some_atom =
        let e : n - (n - level - 1) - 1 ≡ level = omega arith in
        let e' : n - level - 1 + 1 ≡ n - level = omega arith in
        (h.steps (n - level - 1) (omega arith) (sampled s) (count ∙ sym e)).0 (subst (λ j. IsTrue (holds (sampled s) (get_or stages j []))) (sym e') holds_here)

    pub no_atom_is_absurd : ((a : Atom) → IsFalse (holds (sampled s ++ a ∷ []) (get_or stages (n - level - 1) []))) → ⊥
    no_atom_is_absurd none =
        let m = some_atom in
        let no : holds (sampled s ++ m.0 ∷ []) (get_or stages (n - level - 1) []) ≡ false = none m.0 in
        let yes : holds (sampled s ++ m.0 ∷ []) (get_or stages (n - level - 1) []) ≡ true = m.1 in
        cc

pub stage_read : (stages : List (List (List Lit))) (k : ℕ) (x : List (List Lit)) → k < length stages → x ≡ get_or stages k x → x ≡ get_or stages k []
stage_read stages k x l is = is ∙ get_or_default stages k x [] l

pub one_cube_met : (n : ℕ) (k : List Lit) → IsSatisfiable n k → ConstraintIsSatisfiable n (k ∷ [])
one_cube_met n k met = (met.0, met.1, first_or (cube_holds met.0 k) false met.2)
