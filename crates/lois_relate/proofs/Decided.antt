-- At each choice a formula holds or doesn't: an atom that is looked for stands to those of the choice as one of finitely many numbers does.
use Rattle.std.proofs.Common.{◌≡◌, ℕ, zero, suc, ◌+◌, ◌-◌, ◌*◌, ◌<◌, ◌≤◌, ◌⊎◌, inl, inr, Bool, true, false, not, List, [], ◌∷◌, ◌++◌, map, length, length-append, refl, sym, ap, ◌∙◌, subst, arith}
use Rattle.std.proofs.lemmas.Bool.{cases_lt, lt-ltb, ltb-true}
use Rattle.std.proofs.lemmas.List.{get_or-map, length-map, map-append, get_or_append_left, get_or-append_right}
use Rattle.std.specs.Bool.{IsTrue, IsFalse}
use Rattle.lois_base.specs.Atom.{Atom, below, whole}
use Rattle.lois_base.specs.FormulaData.{FormulaD, lit, all, any, neg, exists, forall, FormulasD, no_formulas, formula, FormulaFits, FormulasFit}
use Rattle.lois_base.specs.FormulaTruth.{FormulaHolds, AllHold, AnyHolds}
use Rattle.lois_base.specs.Patterns.{Agree, AreAlike}
use Rattle.lois_base.specs.Truth.{atom_at, lit_holds}
use Rattle.lois_base.specs.declared.guards.Op.{Op}
use Rattle.lois_base.specs.declared.guards.Op.TheVariants.{Eq, Ne, Lt, AtMost}
use Rattle.lois_base.proofs.Moves.{alike_sym, formula_alike}
use Rattle.lois_base.proofs.Samples.{one_where, at_most_where, below_whole}
use Rattle.lois_base.proofs.Validity.{formula_admitted}
use Rattle.lois_base.proofs.Order.{test, same_truth, equals_from, below_asym, below_irrefl, below_at_most, at_most_below}

-- ---- a number for each atom, by where it stands among those of a choice
-- how many atoms of c are below a, and how many aren't above it
abbrev spot : Atom → List Atom → ℕ
spot a [] = 0
spot a (x ∷ c) = (one_where (below x a) + one_where (not (below a x))) + spot a c

abbrev spotted : List Atom → Atom → Atom
spotted c a = whole (spot a c)

at_least_where : (p q : Bool) → (IsTrue q → IsTrue p) → one_where (not p) ≤ one_where (not q)
at_least_where true q h = omega arith
at_least_where false true h = absurd (let e : IsTrue false = h refl in cc)
at_least_where false false h = omega arith

one_at_most : (p : Bool) → one_where p ≤ 1
one_at_most true = omega arith
one_at_most false = omega arith

one_step : (a b x : Atom) → IsFalse (below b a) → one_where (below x a) + one_where (not (below a x)) ≤ one_where (below x b) + one_where (not (below b x))
one_step a b x h =
    let p : one_where (below x a) ≤ one_where (below x b) = at_most_where (below x a) (below x b) (λ l. below_at_most x a b l h) in
    let q : one_where (not (below a x)) ≤ one_where (not (below b x)) = at_least_where (below a x) (below b x) (λ l. at_most_below a b x h l) in
    omega (arith, p, q)

spot_at_most : (a b : Atom) (c : List Atom) → IsFalse (below b a) → spot a c ≤ spot b c
spot_at_most a b [] h = omega arith
spot_at_most a b (x ∷ c) h = omega (arith, one_step a b x h, spot_at_most a b c h)

spot_length : (a : Atom) (c : List Atom) → spot a c ≤ 2 * length c
spot_length a [] = omega arith
spot_length a (x ∷ c) =
    omega (arith, one_at_most (below x a), one_at_most (not (below a x)), spot_length a c)

spot_below : (c : List Atom) (i : ℕ) (b : Atom) → i < length c → IsTrue (below (atom_at c i) b) → spot (atom_at c i) c < spot b c
spot_below [] i b l h = absurd (omega arith)
spot_below (x ∷ c) zero b l h =
    let p : one_where (below x x) ≡ 0 = ap one_where (below_irrefl x) in
    let q : one_where (not (below x x)) ≡ 1 = ap (λ z. one_where (not z)) (below_irrefl x) in
    let r : one_where (below x b) ≡ 1 = ap one_where h in
    let s : one_where (not (below b x)) ≡ 1 = ap (λ z. one_where (not z)) (below_asym x b h) in
    omega (arith, p, q, r, s, spot_at_most x b c (below_asym x b h))
spot_below (x ∷ c) (suc i) b l h =
    omega (arith, one_step (atom_at c i) b x (below_asym (atom_at c i) b h), spot_below c i b (omega arith) h)

spot_above : (c : List Atom) (i : ℕ) (b : Atom) → i < length c → IsTrue (below b (atom_at c i)) → spot b c < spot (atom_at c i) c
spot_above [] i b l h = absurd (omega arith)
spot_above (x ∷ c) zero b l h =
    let p : one_where (below x x) ≡ 0 = ap one_where (below_irrefl x) in
    let q : one_where (not (below x x)) ≡ 1 = ap (λ z. one_where (not z)) (below_irrefl x) in
    let r : one_where (below x b) ≡ 0 = ap one_where (below_asym b x h) in
    let s : one_where (not (below b x)) ≡ 0 = ap (λ z. one_where (not z)) h in
    omega (arith, p, q, r, s, spot_at_most b x c (below_asym b x h))
spot_above (x ∷ c) (suc i) b l h =
    omega (arith, one_step b (atom_at c i) x (below_asym b (atom_at c i) h), spot_above c i b (omega arith) h)

-- two atoms stand as their numbers do
abbrev Stand : List Atom → Atom → Atom → Type 0
Stand c a b = below a b ≡ below (spotted c a) (spotted c b)

module _ (c : List Atom) (i : ℕ) (l : i < length c) (b : Atom) where
  stand_before : Stand c (atom_at c i) b
  stand_before =
      same_truth _ _ (λ h. below_whole _ _ ∙ lt-ltb _ _ (spot_below c i b l h)) (λ h. back (ltb-true _ _ (sym (below_whole _ _) ∙ h)) (test (below (atom_at c i) b)))
    where
      back : spot (atom_at c i) c < spot b c → IsTrue (below (atom_at c i) b) ⊎ IsFalse (below (atom_at c i) b) → IsTrue (below (atom_at c i) b)
      back r (inl y) = y
      back r (inr n) = absurd (omega (arith, spot_at_most b (atom_at c i) c n))

  stand_behind : Stand c b (atom_at c i)
  stand_behind =
      same_truth _ _ (λ h. below_whole _ _ ∙ lt-ltb _ _ (spot_above c i b l h)) (λ h. back (ltb-true _ _ (sym (below_whole _ _) ∙ h)) (test (below b (atom_at c i))))
    where
      back : spot b c < spot (atom_at c i) c → IsTrue (below b (atom_at c i)) ⊎ IsFalse (below b (atom_at c i)) → IsTrue (below b (atom_at c i))
      back r (inl y) = y
      back r (inr n) = absurd (omega (arith, spot_at_most (atom_at c i) b c n))

stand_self : (c : List Atom) (a : Atom) → Stand c a a
stand_self c a = below_irrefl a ∙ sym (below_irrefl (spotted c a))

alike_spots : (c d : List Atom) → ((i j : ℕ) → i < length d → j < length d → Stand c (atom_at d i) (atom_at d j)) → AreAlike true d (map (spotted c) d)
alike_spots c d stand = record { count = sym (length-map d (spotted c)); agree = λ op h. go op }
  where
    at : (i : ℕ) → i < length d → atom_at (map (spotted c) d) i ≡ spotted c (atom_at d i)
    at i l = get_or-map (spotted c) d i (whole 0) (whole 0) l

    smaller : Agree Lt d (map (spotted c) d)
    smaller i j l m = rw (at i l, at j m) (stand i j l m)

    equals : Agree Eq d (map (spotted c) d)
    equals i j l m =
        rw (at i l, at j m) (equals_from (atom_at d i) (atom_at d j) (spotted c (atom_at d i)) (spotted c (atom_at d j)) (stand i j l m) (stand j i m l))

    go : (op : Op) → Agree op d (map (spotted c) d)
    go Eq = equals
    go Ne = λ i j l m. ap not (equals i j l m)
    go Lt = smaller
    go AtMost = λ i j l m. ap not (smaller j i m l)

alike_own : (c : List Atom) → AreAlike true c (map (spotted c) c)
alike_own c = alike_spots c c (λ i j l m. stand_before c i l (atom_at c j))

alike_more : (c : List Atom) (a : Atom) → AreAlike true (c ++ a ∷ []) (map (spotted c) c ++ spotted c a ∷ [])
alike_more c a =
    subst (λ z. AreAlike true (c ++ a ∷ []) z) (map-append (spotted c) c (a ∷ [])) (alike_spots c (c ++ a ∷ []) (λ i j l m. go i j l m (cases_lt i (length c)) (cases_lt j (length c))))
  where
    old : (i : ℕ) → i < length c → atom_at (c ++ a ∷ []) i ≡ atom_at c i
    old i l = get_or_append_left c (a ∷ []) (whole 0) i l

    new : (i : ℕ) → i < length (c ++ a ∷ []) → length c ≤ i → atom_at (c ++ a ∷ []) i ≡ a
    new i l m =
        let k : i ≡ length c = omega (arith, length-append c (a ∷ [])) in
        ap (λ z. atom_at (c ++ a ∷ []) z) k ∙ get_or-append_right c (a ∷ []) (length c) (length c) (whole 0) refl (omega arith) ∙ first (length c)
      where
        first : (n : ℕ) → atom_at (a ∷ []) (n - n) ≡ a
        first n = let e : n - n ≡ 0 = omega arith in ap (λ z. atom_at (a ∷ []) z) e

    go : (i j : ℕ) → i < length (c ++ a ∷ []) → j < length (c ++ a ∷ []) → i < length c ⊎ length c ≤ i → j < length c ⊎ length c ≤ j → Stand c (atom_at (c ++ a ∷ []) i) (atom_at (c ++ a ∷ []) j)
    go i j l m (inl p) q = rw (old i p) (stand_before c i p (atom_at (c ++ a ∷ []) j))
    go i j l m (inr p) (inl q) = rw (old j q) (stand_behind c j q (atom_at (c ++ a ∷ []) i))
    go i j l m (inr p) (inr q) = rw (new i l p, new j m q) (stand_self c a)

-- ---- a search among the numbers below n
some_below : (P : ℕ → Type 0) → ((x : ℕ) → P x ⊎ (P x → ⊥)) → (n : ℕ) → ((x : ℕ) × P x) ⊎ ((x : ℕ) → x < n → P x → ⊥)
some_below P decides zero = inr (λ x l p. omega arith)
some_below P decides (suc n) = pick (decides n) (some_below P decides n)
  where
    pick : P n ⊎ (P n → ⊥) → ((x : ℕ) × P x) ⊎ ((x : ℕ) → x < n → P x → ⊥) → ((x : ℕ) × P x) ⊎ ((x : ℕ) → x < suc n → P x → ⊥)
    pick (inl p) r = inl (n, p)
    pick (inr lacks) (inl r) = inl r
    pick (inr lacks) (inr none) = inr (λ x l p. each x l p (cases_lt x n))
      where
        each : (x : ℕ) → x < suc n → P x → x < n ⊎ n ≤ x → ⊥
        each x l p (inl m) = none x m p
        each x l p (inr m) = let e : x ≡ n = omega arith in lacks (subst P e p)

module _ (f : FormulaD) (c : List Atom) where
  moved_there : FormulaFits (length c) f → FormulaHolds c f → FormulaHolds (map (spotted c) c) f
  moved_there p = formula_alike true f c (map (spotted c) c) (alike_own c) p (formula_admitted f)

  moved_back : FormulaFits (length c) f → FormulaHolds (map (spotted c) c) f → FormulaHolds c f
  moved_back p =
      formula_alike true f (map (spotted c) c) c (alike_sym true c (map (spotted c) c) (alike_own c)) (subst (λ n. FormulaFits n f) (sym (length-map c (spotted c))) p) (formula_admitted f)

  one_longer : (a : Atom) → length (c ++ a ∷ []) ≡ suc (length c)
  one_longer a = omega (arith, length-append c (a ∷ []))

  more_there : FormulaFits (suc (length c)) f → (a : Atom) → FormulaHolds (c ++ a ∷ []) f → FormulaHolds (map (spotted c) c ++ spotted c a ∷ []) f
  more_there p a =
      formula_alike true f (c ++ a ∷ []) (map (spotted c) c ++ spotted c a ∷ []) (alike_more c a) (subst (λ n. FormulaFits n f) (sym (one_longer a)) p) (formula_admitted f)

  more_back : FormulaFits (suc (length c)) f → (a : Atom) → FormulaHolds (map (spotted c) c ++ spotted c a ∷ []) f → FormulaHolds (c ++ a ∷ []) f
  more_back p a =
      let l : length (map (spotted c) c ++ spotted c a ∷ []) ≡ suc (length c) = omega (arith, length-append (map (spotted c) c) (spotted c a ∷ []), length-map c (spotted c)) in
      formula_alike true f (map (spotted c) c ++ spotted c a ∷ []) (c ++ a ∷ []) (alike_sym true (c ++ a ∷ []) (map (spotted c) c ++ spotted c a ∷ []) (alike_more c a)) (subst (λ n. FormulaFits n f) (sym l) p) (formula_admitted f)

abbrev Decides : Type 0 → Type 0
Decides P = P ⊎ (P → ⊥)

opposite : (P : Type 0) → Decides P → Decides (P → ⊥)
opposite P (inl p) = inr (λ n. n p)
opposite P (inr n) = inl n

stable : (P : Type 0) → Decides P → ((P → ⊥) → ⊥) → P
stable P (inl p) h = p
stable P (inr n) h = absurd (h n)

abbrev At : List Atom → FormulaD → ℕ → Type 0
At c f x = FormulaHolds (map (spotted c) c ++ whole x ∷ []) f

spot_small : (a : Atom) (c : List Atom) → spot a c < suc (2 * length c)
spot_small a c = omega (arith, spot_length a c)

exists_decided : (f : FormulaD) (c : List Atom) → FormulaFits (suc (length c)) f → ((x : ℕ) → Decides (At c f x)) → Decides (FormulaHolds c (exists f))
exists_decided f c p each = pick (some_below (At c f) each (suc (2 * length c)))
  where
    pick : ((x : ℕ) × At c f x) ⊎ ((x : ℕ) → x < suc (2 * length c) → At c f x → ⊥) → Decides (FormulaHolds c (exists f))
    pick (inl (x, h)) = inl (moved_back (exists f) c p (whole x, h))
    pick (inr none) = inr (λ h. none (spot h.0 c) (spot_small h.0 c) (more_there f c p h.0 h.1))

forall_decided : (f : FormulaD) (c : List Atom) → FormulaFits (suc (length c)) f → ((x : ℕ) → Decides (At c f x)) → Decides (FormulaHolds c (forall f))
forall_decided f c p each =
    pick (some_below (λ x. At c f x → ⊥) (λ x. opposite (At c f x) (each x)) (suc (2 * length c)))
  where
    pick : ((x : ℕ) × (At c f x → ⊥)) ⊎ ((x : ℕ) → x < suc (2 * length c) → (At c f x → ⊥) → ⊥) → Decides (FormulaHolds c (forall f))
    pick (inl (x, lacks)) = inr (λ h. lacks (moved_there (forall f) c p h (whole x)))
    pick (inr none) =
        inl (λ a. more_back f c p a (stable (At c f (spot a c)) (each (spot a c)) (none (spot a c) (spot_small a c))))

at_fits : (f : FormulaD) (c : List Atom) (x : ℕ) → FormulaFits (suc (length c)) f → FormulaFits (length (map (spotted c) c ++ whole x ∷ [])) f
at_fits f c x p =
    let l : length (map (spotted c) c ++ whole x ∷ []) ≡ suc (length c) = omega (arith, length-append (map (spotted c) c) (whole x ∷ []), length-map c (spotted c)) in
    subst (λ n. FormulaFits n f) (sym l) p

mutual
  pub formula_decided : (f : FormulaD) (c : List Atom) → FormulaFits (length c) f → FormulaHolds c f ⊎ (FormulaHolds c f → ⊥)
  formula_decided (lit l) c p = elim (test (lit_holds c l)) [ inl y ↦ inl y | inr n ↦ inr (λ y. absurd (cc)) ]
  formula_decided (all fs) c p = all_decided fs c p
  formula_decided (any fs) c p = any_decided fs c p
  formula_decided (neg f) c p = opposite (FormulaHolds c f) (formula_decided f c p)
  formula_decided (exists f) c p = exists_decided f c p (λ x. formula_decided f (map (spotted c) c ++ whole x ∷ []) (at_fits f c x p))
  formula_decided (forall f) c p = forall_decided f c p (λ x. formula_decided f (map (spotted c) c ++ whole x ∷ []) (at_fits f c x p))

  all_decided : (fs : FormulasD) (c : List Atom) → FormulasFit (length c) fs → Decides (AllHold c fs)
  all_decided no_formulas c p = inl tt
  all_decided (formula f fs) c p = pick (formula_decided f c p.0) (all_decided fs c p.1)
    where
      pick : Decides (FormulaHolds c f) → Decides (AllHold c fs) → Decides (AllHold c (formula f fs))
      pick (inr n) r = inr (λ h. n h.0)
      pick (inl y) (inr n) = inr (λ h. n h.1)
      pick (inl y) (inl z) = inl (y, z)

  any_decided : (fs : FormulasD) (c : List Atom) → FormulasFit (length c) fs → Decides (AnyHolds c fs)
  any_decided no_formulas c p = inr (λ h. h)
  any_decided (formula f fs) c p = pick (formula_decided f c p.0) (any_decided fs c p.1)
    where
      pick : Decides (FormulaHolds c f) → Decides (AnyHolds c fs) → Decides (AnyHolds c (formula f fs))
      pick (inl y) r = inl (inl y)
      pick (inr n) (inl z) = inl (inr z)
      pick (inr n) (inr m) = inr (λ h. elim h [ inl y ↦ n y | inr z ↦ m z ])
