-- What formulas say that are put together from others.
use Rattle.std.proofs.Common.{◌≡◌, ℕ, zero, suc, ◌+◌, Bool, nat_eq, ◌⊎◌, inl, inr, ◌↔◌, List, [], ◌∷◌, ◌++◌, length, refl, sym, subst, ap, ◌∙◌, arith}
use Rattle.std.proofs.lemmas.Bool.{eqb-true}
use Rattle.std.proofs.lemmas.List.{append_assoc}
use Rattle.std.specs.Bool.{IsTrue}
use Rattle.lois_base.specs.Atom.{Atom, whole}
use Rattle.lois_base.specs.FormulaData.{FormulaD, all, any, exists, no_formulas, formulas_of, FormulaFits, FormulasFit}
use Rattle.lois_base.specs.FormulaTruth.{FormulaHolds, AllHold, AnyHolds}
use Rattle.lois_base.specs.FormulaOperators.{AdmitsFormula, AdmitsFormulas}
use Rattle.lois_relate.specs.Built.{IsBoth, IsEither, IsNegation, IsImplied, IsForSome}

-- ---- true and false everywhere
pub both_never_left : (f g : FormulaD) → f ≡ any no_formulas → IsBoth f g f
both_never_left f g e = record {
  truth = λ c. (λ h. absurd (subst (FormulaHolds c) e h), λ h. h.0);
  levels = λ n h h'. h;
  operators = λ o h h'. h;
}

pub both_always_right : (f g : FormulaD) → g ≡ all no_formulas → IsBoth f g f
both_always_right f g e = record {
  truth = λ c. (λ h. (h, subst (FormulaHolds c) (sym e) tt), λ h. h.0);
  levels = λ n h h'. h;
  operators = λ o h h'. h;
}

pub both_never_right : (f g : FormulaD) → g ≡ any no_formulas → IsBoth f g g
both_never_right f g e = record {
  truth = λ c. (λ h. absurd (subst (FormulaHolds c) e h), λ h. h.1);
  levels = λ n h h'. h';
  operators = λ o h h'. h';
}

pub both_always_left : (f g : FormulaD) → f ≡ all no_formulas → IsBoth f g g
both_always_left f g e = record {
  truth = λ c. (λ h. (subst (FormulaHolds c) (sym e) tt, h), λ h. h.1);
  levels = λ n h h'. h';
  operators = λ o h h'. h';
}

pub either_always_left : (f g : FormulaD) → f ≡ all no_formulas → IsEither f g f
either_always_left f g e = record {
  truth = λ c. (λ h. inl h, λ h. subst (FormulaHolds c) (sym e) tt);
  levels = λ n h h'. h;
  operators = λ o h h'. h;
}

pub either_never_right : (f g : FormulaD) → g ≡ any no_formulas → IsEither f g f
either_never_right f g e = record {
  truth = λ c. (λ h. inl h, λ h. elim h [ inl p ↦ p | inr p ↦ absurd (subst (FormulaHolds c) e p) ]);
  levels = λ n h h'. h;
  operators = λ o h h'. h;
}

pub either_always_right : (f g : FormulaD) → g ≡ all no_formulas → IsEither f g g
either_always_right f g e = record {
  truth = λ c. (λ h. inr h, λ h. subst (FormulaHolds c) (sym e) tt);
  levels = λ n h h'. h';
  operators = λ o h h'. h';
}

pub either_never_left : (f g : FormulaD) → f ≡ any no_formulas → IsEither f g g
either_never_left f g e = record {
  truth = λ c. (λ h. inr h, λ h. elim h [ inl p ↦ absurd (subst (FormulaHolds c) e p) | inr p ↦ p ]);
  levels = λ n h h'. h';
  operators = λ o h h'. h';
}

-- ---- a formula without parts
suc_not_zero : (k : ℕ) → IsTrue (nat_eq (suc k) 0) → ⊥
suc_not_zero k h = let e : suc k ≡ 0 = eqb-true (suc k) 0 h in omega arith

pub is_all_nothing : (v : FormulaD) (fs : List FormulaD) (n : ℕ) → v ≡ all (formulas_of fs) → n ≡ length fs → IsTrue (nat_eq n 0) ↔ (v ≡ all no_formulas)
is_all_nothing v [] n e k = subst (λ j. IsTrue (nat_eq j 0) ↔ (v ≡ all no_formulas)) (sym k) (λ h. e, λ h. refl)
is_all_nothing v (f ∷ fs) n e k =
    subst (λ j. IsTrue (nat_eq j 0) ↔ (v ≡ all no_formulas)) (sym k) (λ h. absurd (suc_not_zero (length fs) h), λ h. absurd (cc))

pub is_any_nothing : (v : FormulaD) (fs : List FormulaD) (n : ℕ) → v ≡ any (formulas_of fs) → n ≡ length fs → IsTrue (nat_eq n 0) ↔ (v ≡ any no_formulas)
is_any_nothing v [] n e k = subst (λ j. IsTrue (nat_eq j 0) ↔ (v ≡ any no_formulas)) (sym k) (λ h. e, λ h. refl)
is_any_nothing v (f ∷ fs) n e k =
    subst (λ j. IsTrue (nat_eq j 0) ↔ (v ≡ any no_formulas)) (sym k) (λ h. absurd (suc_not_zero (length fs) h), λ h. absurd (cc))

-- ---- lists of parts
module _ (c : List Atom) (g : FormulaD) where
  all_pushed : (fs : List FormulaD) → AllHold c (formulas_of (fs ++ g ∷ [])) ↔ (AllHold c (formulas_of fs) × FormulaHolds c g)
  all_pushed [] = (λ h. (tt, h.0), λ h. (h.1, tt))
  all_pushed (f ∷ fs) = (
    λ h. let r = (all_pushed fs).0 h.1 in ((h.0, r.0), r.1),
    λ h. (h.0.0, (all_pushed fs).1 (h.0.1, h.1)),
  )

  any_pushed : (fs : List FormulaD) → AnyHolds c (formulas_of (fs ++ g ∷ [])) ↔ (AnyHolds c (formulas_of fs) ⊎ FormulaHolds c g)
  any_pushed [] = (λ h. elim h [ inl p ↦ inr p | inr p ↦ absurd p ], λ h. elim h [ inl p ↦ absurd p | inr p ↦ inl p ])
  any_pushed (f ∷ fs) =
      let rest = any_pushed fs in (
        λ h. elim h [ inl p ↦ inl (inl p) | inr p ↦ elim (rest.0 p) [ inl q ↦ inl (inr q) | inr q ↦ inr q ] ],
        λ h. elim h [ inl p ↦ elim p [ inl q ↦ inl q | inr q ↦ inr (rest.1 (inl q)) ] | inr p ↦ inr (rest.1 (inr p)) ],
      )

fit_pushed : (n : ℕ) (g : FormulaD) (fs : List FormulaD) → FormulasFit n (formulas_of fs) → FormulaFits n g → FormulasFit n (formulas_of (fs ++ g ∷ []))
fit_pushed n g [] h k = (k, tt)
fit_pushed n g (f ∷ fs) h k = (h.0, fit_pushed n g fs h.1 k)

admits_pushed : (o : Bool) (g : FormulaD) (fs : List FormulaD) → AdmitsFormulas o (formulas_of fs) → AdmitsFormula o g → AdmitsFormulas o (formulas_of (fs ++ g ∷ []))
admits_pushed o g [] h k = (k, tt)
admits_pushed o g (f ∷ fs) h k = (h.0, admits_pushed o g fs h.1 k)

pub both_pushed : (f g r : FormulaD) (fs rs : List FormulaD) → f ≡ all (formulas_of fs) → rs ≡ fs ++ g ∷ [] → r ≡ all (formulas_of rs) → IsBoth f g r
both_pushed f g r fs rs e p k =
    let whole_is : all (formulas_of (fs ++ g ∷ [])) ≡ r = ap (λ z. all (formulas_of z)) (sym p) ∙ sym k in
    subst (λ z. IsBoth z g r) (sym e) (subst (IsBoth (all (formulas_of fs)) g) whole_is (record {
      truth = λ c. all_pushed c g fs;
      levels = λ n h h'. fit_pushed n g fs h h';
      operators = λ o h h'. admits_pushed o g fs h h';
    }))

all_appended : (c : List Atom) (gs fs : List FormulaD) → AllHold c (formulas_of (fs ++ gs)) ↔ (AllHold c (formulas_of fs) × AllHold c (formulas_of gs))
all_appended c gs [] = (λ h. (tt, h), λ h. h.1)
all_appended c gs (f ∷ fs) = (
  λ h. let r = (all_appended c gs fs).0 h.1 in ((h.0, r.0), r.1),
  λ h. (h.0.0, (all_appended c gs fs).1 (h.0.1, h.1)),
)

fit_appended : (n : ℕ) (gs fs : List FormulaD) → FormulasFit n (formulas_of fs) → FormulasFit n (formulas_of gs) → FormulasFit n (formulas_of (fs ++ gs))
fit_appended n gs [] h k = k
fit_appended n gs (f ∷ fs) h k = (h.0, fit_appended n gs fs h.1 k)

admits_appended : (o : Bool) (gs fs : List FormulaD) → AdmitsFormulas o (formulas_of fs) → AdmitsFormulas o (formulas_of gs) → AdmitsFormulas o (formulas_of (fs ++ gs))
admits_appended o gs [] h k = k
admits_appended o gs (f ∷ fs) h k = (h.0, admits_appended o gs fs h.1 k)

pub both_appended : (g : FormulaD) (fs gs rs : List FormulaD) → g ≡ all (formulas_of gs) → rs ≡ fs ++ gs → IsBoth (all (formulas_of fs)) g (all (formulas_of rs))
both_appended g fs gs rs e p =
    subst (λ z. IsBoth (all (formulas_of fs)) z (all (formulas_of rs))) (sym e) (subst (λ z. IsBoth (all (formulas_of fs)) (all (formulas_of gs)) (all (formulas_of z))) (sym p) (record {
      truth = λ c. all_appended c gs fs;
      levels = λ n h k. fit_appended n gs fs h k;
      operators = λ o h k. admits_appended o gs fs h k;
    }))

pub either_pushed : (f g r : FormulaD) (fs rs : List FormulaD) → f ≡ any (formulas_of fs) → rs ≡ fs ++ g ∷ [] → r ≡ any (formulas_of rs) → IsEither f g r
either_pushed f g r fs rs e p k =
    let whole_is : any (formulas_of (fs ++ g ∷ [])) ≡ r = ap (λ z. any (formulas_of z)) (sym p) ∙ sym k in
    subst (λ z. IsEither z g r) (sym e) (subst (IsEither (any (formulas_of fs)) g) whole_is (record {
      truth = λ c. any_pushed c g fs;
      levels = λ n h h'. fit_pushed n g fs h h';
      operators = λ o h h'. admits_pushed o g fs h h';
    }))

-- ---- negation
pub negation_of_never : (f r : FormulaD) → f ≡ any no_formulas → r ≡ all no_formulas → IsNegation f r
negation_of_never f r e k = subst (IsNegation f) (sym k) (record {
  truth = λ c. (λ h p. subst (FormulaHolds c) e p, λ h. tt);
  levels = λ n h. tt;
  operators = λ o h. tt;
})

pub negation_of_always : (f r : FormulaD) → f ≡ all no_formulas → r ≡ any no_formulas → IsNegation f r
negation_of_always f r e k = subst (IsNegation f) (sym k) (record {
  truth = λ c. (λ h p. h, λ h. h (subst (FormulaHolds c) (sym e) tt));
  levels = λ n h. tt;
  operators = λ o h. tt;
})

pub is_implied : (f g d r : FormulaD) → IsNegation f d → IsEither d g r → IsImplied f g r
is_implied f g d r negation either = record {
  truth = λ c. (
    λ h. elim ((either.truth c).0 h) [ inl p ↦ inl ((negation.truth c).0 p) | inr p ↦ inr p ],
    λ h. (either.truth c).1 (elim h [ inl p ↦ inl ((negation.truth c).1 p) | inr p ↦ inr p ]),
  );
  levels = λ n p q. either.levels n (negation.levels n p) q;
  operators = λ o p q. either.operators o (negation.operators o p) q;
}

-- ---- some atoms
zeros : ℕ → List Atom
zeros zero = []
zeros (suc m) = whole 0 ∷ zeros m

length_zeros : (m : ℕ) → length (zeros m) ≡ m
unfolding zeros
length_zeros zero = refl
length_zeros (suc m) = ap suc (length_zeros m)

pub for_some_never : (m : ℕ) (f : FormulaD) → f ≡ any no_formulas → IsForSome m f f
for_some_never m f e = record {
  truth = λ c. (λ h. absurd (subst (FormulaHolds c) e h), λ h. absurd (subst (FormulaHolds (c ++ h.0)) e h.2));
  levels = λ n h. subst (FormulaFits n) (sym e) tt;
  operators = λ o h. h;
}

pub for_some_always : (m : ℕ) (f : FormulaD) → f ≡ all no_formulas → IsForSome m f f
for_some_always m f e = record {
  truth = λ c. (
    λ h. (zeros m, length_zeros m, subst (FormulaHolds (c ++ zeros m)) (sym e) tt),
    λ h. subst (FormulaHolds c) (sym e) tt,
  );
  levels = λ n h. subst (FormulaFits n) (sym e) tt;
  operators = λ o h. h;
}

pub for_some_none : (f : FormulaD) → IsForSome 0 f f
for_some_none f = record {
  truth = λ c. (λ h. ([], refl, subst (λ z. FormulaHolds z f) (sym (nil_right c)) h), λ h. go c h.0 h.1 h.2);
  levels = λ n h. let e : n + 0 ≡ n = omega arith in subst (λ k. FormulaFits k f) e h;
  operators = λ o h. h;
}
  where
    nil_right : (c : List Atom) → c ++ [] ≡ c
    nil_right [] = refl
    nil_right (a ∷ c) = ap (λ z. a ∷ z) (nil_right c)

    go : (c e : List Atom) → length e ≡ 0 → FormulaHolds (c ++ e) f → FormulaHolds c f
    go c [] l h = subst (λ z. FormulaHolds z f) (nil_right c) h
    go c (a ∷ e) l h = absurd (omega arith)

-- one more quantifier in front
pub for_some_more : (m : ℕ) (f r r' : FormulaD) → IsForSome m f r → r' ≡ exists r → IsForSome (m + 1) f r'
for_some_more m f r r' h k = subst (IsForSome (m + 1) f) (sym k) (record {
  truth = λ c. (λ x. there c x, λ x. back c x.0 x.1 x.2);
  levels = λ n x. let e : n + (m + 1) ≡ suc n + m = omega arith in h.levels (suc n) (subst (λ j. FormulaFits j f) e x);
  operators = λ o x. h.operators o x;
})
  where
    there : (c : List Atom) → FormulaHolds c (exists r) → (e : List Atom) × (length e ≡ m + 1) × FormulaHolds (c ++ e) f
    there c (a, x) =
        let y = (h.truth (c ++ a ∷ [])).0 x in
        (a ∷ y.0, omega (arith, y.1), subst (λ z. FormulaHolds z f) (append_assoc c (a ∷ []) y.0) y.2)

    back : (c e : List Atom) → length e ≡ m + 1 → FormulaHolds (c ++ e) f → FormulaHolds c (exists r)
    back c [] l x = absurd (omega arith)
    back c (a ∷ e) l x =
        (a, (h.truth (c ++ a ∷ [])).1 (e, omega arith, subst (λ z. FormulaHolds z f) (sym (append_assoc c (a ∷ []) e)) x))
