-- A partition of which each case is met has as many cases as there are patterns at most.
use Rattle.std.proofs.Common.{◌≡◌, ℕ, ◌+◌, ◌≤◌, ◌⊎◌, inl, inr, Bool, true, false, not, List, [], ◌∷◌, ◌++◌, length, zero-add, sym, ◌∙◌, refl, subst, arith}
use Rattle.std.proofs.lemmas.Bool.{cases_Bool}
use Rattle.std.proofs.lemmas.List.{length-map}
use Rattle.std.proofs.lemmas.List.Elements.{All-head, All-tail}
use Rattle.std.specs.List.{All, filter}
use Rattle.lois_base.specs.Atom.{Atom, whole}
use Rattle.lois_base.specs.Fits.{ConstraintFits}
use Rattle.lois_base.specs.Truth.{holds, sampled}
use Rattle.lois_base.specs.Validity.{AdmitsConstraint}
use Rattle.lois_base.proofs.Truths.{holds_alike}
use Rattle.lois_answers.specs.ResultsData.{CaseD}
use Rattle.lois_cases.specs.CaseCount.{patterns}
use Rattle.lois_cases.specs.Cases.{CaseFits, HoldsAt, NoneHoldsAt}
use Rattle.lois_cases.specs.Partitions.{ArePartition}
use Rattle.lois_cases.proofs.Patterns.{In, listed, listed_length, listed_count, pattern_of}

module _ {X : Type 0} where
  parted_count : (q : X → Bool) (ks : List X) → length ks ≡ length (filter q ks) + length (filter (λ k. not (q k)) ks)
  parted_count q [] = refl
  parted_count q (k ∷ ks) = elim (cases_Bool (q k)) [
    | inl y ↦ rw y (omega (arith, parted_count q ks))
    | inr n ↦ rw n (omega (arith, parted_count q ks))
  ]

  fewer_with : (q r : X → Bool) (k : X) (ks : List X) → (r k ≡ true) ⊎ (r k ≡ false) → (q k ≡ true) ⊎ (q k ≡ false) → length (filter q (filter r ks)) ≤ length (filter q ks) → length (filter q (filter r (k ∷ ks))) ≤ length (filter q (k ∷ ks))
  fewer_with q r k ks (inl y) (inl z) h = rw (y, z) (omega (arith, h))
  fewer_with q r k ks (inl y) (inr z) h = rw (y, z) h
  fewer_with q r k ks (inr n) (inl z) h = rw (n, z) (omega (arith, h))
  fewer_with q r k ks (inr n) (inr z) h = rw (n, z) h

  fewer_kept : (q r : X → Bool) (ks : List X) → length (filter q (filter r ks)) ≤ length (filter q ks)
  fewer_kept q r [] = omega arith
  fewer_kept q r (k ∷ ks) = fewer_with q r k ks (cases_Bool (r k)) (cases_Bool (q k)) (fewer_kept q r ks)

-- each of the ks is met by one of the ps, and one of these meets one of the ks at most
module _ {P X : Type 0} (meets : P → X → Bool) where
  abbrev AllMet : List P → List X → Type 0
  AllMet ps [] = Unit {0}
  AllMet ps (k ∷ ks) = ((p : P) × In ps p × (meets p k ≡ true)) × AllMet ps ks

  met_by_others : (p : P) (ps : List P) (ks : List X) → AllMet (p ∷ ps) ks → AllMet ps (filter (λ k. not (meets p k)) ks)
  met_by_others p ps [] h = tt
  met_by_others p ps (k ∷ ks) h = elim (cases_Bool (meets p k)) [
    | inl y ↦ rw y (met_by_others p ps ks h.1)
    | inr n ↦ rw n (other n h.0, met_by_others p ps ks h.1)
  ]
    where
      other : meets p k ≡ false → ((q : P) × In (p ∷ ps) q × (meets q k ≡ true)) → (q : P) × In ps q × (meets q k ≡ true)
      other n (q, inl e, m) = absurd (let f : meets q k ≡ false = subst (λ z. meets z k ≡ false) e n in cc)
      other n (q, inr i, m) = (q, i, m)

  few : (ps : List P) (ks : List X) → ((p : P) → In ps p → length (filter (meets p) ks) ≤ 1) → AllMet ps ks → length ks ≤ length ps
  few [] [] one h = omega arith
  few [] (k ∷ ks) one h = absurd h.0.1
  few (p ∷ ps) ks one h =
      let rest = filter (λ k. not (meets p k)) ks in
      let r = few ps rest (λ q i. let a = fewer_kept (meets q) (λ k. not (meets p k)) ks in let b = one q (inr i) in omega (arith, a, b)) (met_by_others p ps ks h) in
      omega (arith, parted_count (meets p) ks, one p (inl refl), r)

module _ (c : List Atom) where
  abbrev here : CaseD → Bool
  here k = holds c k.«when»

  none_here : (ks : List CaseD) → NoneHoldsAt c ks → length (filter here ks) ≡ 0
  none_here [] h = refl
  none_here (k ∷ ks) h = elim (cases_Bool (here k)) [
    | inl y ↦ absurd (All-head (λ q. HoldsAt c q → ⊥) k ks h y)
    | inr n ↦ rw n (none_here ks (All-tail (λ q. HoldsAt c q → ⊥) k ks h))
  ]

  one_here : (before behind : List CaseD) (k : CaseD) → NoneHoldsAt c before → NoneHoldsAt c behind → length (filter here (before ++ k ∷ behind)) ≤ 1
  one_here [] behind k h l = elim (cases_Bool (here k)) [
    | inl y ↦ rw y (omega (arith, none_here behind l))
    | inr n ↦ rw n (omega (arith, none_here behind l))
  ]
  one_here (x ∷ before) behind k h l = elim (cases_Bool (here x)) [
    | inl y ↦ absurd (All-head (λ q. HoldsAt c q → ⊥) x before h y)
    | inr n ↦ rw n (one_here before behind k (All-tail (λ q. HoldsAt c q → ⊥) x before h) l)
  ]

abbrev pub IsMetCase : ℕ → CaseD → Type 0
IsMetCase n k = (c : List Atom) × (length c ≡ n) × HoldsAt c k

module _ (o : Bool) (n : ℕ) where
  all_met : (ks : List CaseD) → All (CaseFits n) ks → All (λ k. AdmitsConstraint o k.«when») ks → All (IsMetCase n) ks → AllMet (λ p k. holds (sampled p) k.«when») (listed o n [] 0) ks
  all_met [] fits admits met = tt
  all_met (k ∷ ks) fits admits met =
      let m = All-head (IsMetCase n) k ks met in
      let c = m.0 in
      let p = pattern_of o n c m.1 in
      let f : ConstraintFits (length c) k.«when» = subst (λ z. ConstraintFits z k.«when») (sym m.1) (All-head (CaseFits n) k ks fits) in (
        (p.0, p.1, sym (holds_alike o c (sampled p.0) p.2 k.«when» f (All-head (λ q. AdmitsConstraint o q.«when») k ks admits)) ∙ m.2),
        all_met ks (All-tail (CaseFits n) k ks fits) (All-tail (λ q. AdmitsConstraint o q.«when») k ks admits) (All-tail (IsMetCase n) k ks met),
      )

  -- a partition of which each case is met
  pub few_cases : (ks : List CaseD) → All (CaseFits n) ks → All (λ k. AdmitsConstraint o k.«when») ks → All (IsMetCase n) ks → ArePartition n ks → length ks ≤ patterns o n 0
  few_cases ks fits admits met parts =
      subst (λ m. length ks ≤ m) (listed_length o n [] 0)
      (few (λ p k. holds (sampled p) k.«when») (listed o n [] 0) ks (λ p i. once (sampled p) (length-map p whole ∙ (listed_count o n [] 0 p i ∙ zero-add n))) (all_met ks fits admits met))
    where
      once : (c : List Atom) → length c ≡ n → length (filter (here c) ks) ≤ 1
      once c count =
          let at = parts c count in
          let one = at.2 in
          subst (λ qs. length (filter (here c) qs) ≤ 1) (sym one.case.among) (one_here c one.case.before one.case.behind at.1 one.none_before one.none_behind)
