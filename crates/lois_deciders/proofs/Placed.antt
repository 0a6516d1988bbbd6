-- One more atom beside numbers.
use Rattle.std.proofs.Common.{◌≡◌, ℕ, zero, suc, ◌+◌, ◌<◌, ◌≤◌, ◌⊎◌, inl, inr, not, List, [], ◌∷◌, ◌++◌, map, length, get_or, ltb, refl, sym, ap, ◌∙◌, subst, arith, length-append}
use Rattle.std.proofs.lemmas.Bool.{lt-ltb, cases_lt}
use Rattle.std.proofs.lemmas.Bool.Decides.{nat_tests}
use Rattle.std.proofs.lemmas.List.{get_or-map, get_or_append_left, get_or_push, length-map, map-id}
use Rattle.std.proofs.lemmas.List.Elements.{All-append, All-cons, All-nil, All-map, All-weaker}
use Rattle.std.specs.Bool.{IsTrue, IsFalse}
use Rattle.std.specs.List.{All}
use Rattle.lois_base.specs.Atom.{Atom, equal, below, whole}
use Rattle.lois_base.specs.Fits.{ConstraintFits}
use Rattle.lois_base.specs.Patterns.{Agree}
use Rattle.lois_base.specs.Truth.{atom_at, holds, sampled}
use Rattle.lois_base.specs.declared.guards.Lit.{Lit}
use Rattle.lois_base.specs.declared.guards.Op.{Op}
use Rattle.lois_base.specs.declared.guards.Op.TheVariants.{Eq, Ne, Lt, AtMost}
use Rattle.lois_base.proofs.Samples.{below_whole}
use Rattle.lois_base.proofs.Order.{below_irrefl, below_asym, below_trans, below_respects, equal_refl, equals_from, trichotomy}
use Rattle.lois_base.proofs.Truths.{holds_ordered}
use Rattle.lois_deciders.specs.Satisfaction.{IsSmall}
use Rattle.lois_deciders.specs.Places.{raised_from}

-- ---- numbers that stand to x as those before stand to an atom
module _ (s t : List ℕ) (a : Atom) (f : ℕ → ℕ) (x : ℕ) (moved : t ≡ map f s) (small : All (λ i. i < length s) s) (keeps : (y z : ℕ) → ltb (f y) (f z) ≡ ltb y z) (under : (y : ℕ) → y < length s → below (whole y) a ≡ ltb (f y) x) (over : (y : ℕ) → y < length s → below a (whole y) ≡ ltb x (f y)) where
  abbrev old : List Atom
  old = sampled s ++ a ∷ []

  abbrev new : List Atom
  new = sampled (t ++ x ∷ [])

  length_old : length old ≡ length s + 1
  length_old = omega (arith, length-append (sampled s) (a ∷ []), length-map s whole)

  length_t : length t ≡ length s
  length_t = ap length moved ∙ length-map s f

  length_new : length new ≡ length s + 1
  length_new = omega (arith, length-map (t ++ x ∷ []) whole, length-append t (x ∷ []), length_t)

  abbrev number : ℕ → ℕ
  number i = get_or s i 0

  old_at : (i : ℕ) → i < length s → atom_at old i ≡ whole (number i)
  old_at i l =
      let m : i < length (sampled s) = omega (arith, length-map s whole) in
      get_or_append_left (sampled s) (a ∷ []) (whole 0) i m ∙ get_or-map whole s i 0 (whole 0) l

  old_end : atom_at old (length s) ≡ a
  old_end = get_or_push (sampled s) a (whole 0) (length s) (length-map s whole)

  new_read : (i : ℕ) → i < length s + 1 → atom_at new i ≡ whole (get_or (t ++ x ∷ []) i 0)
  new_read i l =
      get_or-map whole (t ++ x ∷ []) i 0 (whole 0) (omega (arith, length-append t (x ∷ []), length_t))

  new_at : (i : ℕ) → i < length s → atom_at new i ≡ whole (f (number i))
  new_at i l =
      new_read i (omega arith) ∙ ap whole (get_or_append_left t (x ∷ []) 0 i (omega (arith, length_t)) ∙ (ap (λ z. get_or z i 0) moved ∙ get_or-map f s i 0 0 l))

  new_end : atom_at new (length s) ≡ whole x
  new_end = new_read (length s) (omega arith) ∙ ap whole (get_or_push t x 0 (length s) length_t)

  abbrev SameBelow : ℕ → ℕ → Type 0
  SameBelow i j = below (atom_at old i) (atom_at old j) ≡ below (atom_at new i) (atom_at new j)

  inside : (i j : ℕ) → i < length s → j < length s → SameBelow i j
  inside i j l m =
      rw (old_at i l, old_at j m, new_at i l, new_at j m) (below_whole (number i) (number j) ∙ (sym (keeps (number i) (number j)) ∙ sym (below_whole (f (number i)) (f (number j)))))

  to_end : (i : ℕ) → i < length s → SameBelow i (length s)
  to_end i l =
      rw (old_at i l, old_end, new_at i l, new_end) (under (number i) (small i 0 l) ∙ sym (below_whole (f (number i)) x))

  from_end : (j : ℕ) → j < length s → SameBelow (length s) j
  from_end j l =
      rw (old_at j l, old_end, new_at j l, new_end) (over (number j) (small j 0 l) ∙ sym (below_whole x (f (number j))))

  at_both : SameBelow (length s) (length s)
  at_both = rw (old_end, new_end) (below_irrefl a ∙ sym (below_irrefl (whole x)))

  same_below : (i j : ℕ) → i < length s + 1 → j < length s + 1 → SameBelow i j
  same_below i j l m = go (cases_lt i (length s)) (cases_lt j (length s))
    where
      go : (i < length s) ⊎ (length s ≤ i) → (j < length s) ⊎ (length s ≤ j) → SameBelow i j
      go (inl p) (inl q) = inside i j p q
      go (inl p) (inr q) = let e : length s ≡ j = omega arith in subst (SameBelow i) e (to_end i p)
      go (inr p) (inl q) = let e : length s ≡ i = omega arith in subst (λ k. SameBelow k j) e (from_end j q)
      go (inr p) (inr q) =
          let e : length s ≡ i = omega arith in
          let e' : length s ≡ j = omega arith in
          subst (λ k. SameBelow k j) e (subst (SameBelow (length s)) e' at_both)

  same_equal : (i j : ℕ) → i < length s + 1 → j < length s + 1 → equal (atom_at old i) (atom_at old j) ≡ equal (atom_at new i) (atom_at new j)
  same_equal i j l m =
      equals_from (atom_at old i) (atom_at old j) (atom_at new i) (atom_at new j) (same_below i j l m) (same_below j i m l)

  agree : (op : Op) → Agree op old new
  agree Eq = λ i j l m. same_equal i j (omega (arith, l, length_old)) (omega (arith, m, length_old))
  agree Ne = λ i j l m. ap not (same_equal i j (omega (arith, l, length_old)) (omega (arith, m, length_old)))
  agree Lt = λ i j l m. same_below i j (omega (arith, l, length_old)) (omega (arith, m, length_old))
  agree AtMost = λ i j l m. ap not (same_below j i (omega (arith, m, length_old)) (omega (arith, l, length_old)))

  pub placed_holds : (g : List (List Lit)) → ConstraintFits (length s + 1) g → holds old g ≡ holds new g
  placed_holds g fits =
      holds_ordered old new (record { count = length_old ∙ sym length_new; agree = λ op h. agree op }) g (subst (λ n. ConstraintFits n g) (sym length_old) fits)

-- ---- where an atom stands among the numbers below n
record Gap (n : ℕ) (a : Atom) (p : ℕ) : Type 0 where
  inside : p ≤ n
  under : (y : ℕ) → y < p → IsTrue (below (whole y) a)
  over : (y : ℕ) → p ≤ y → y < n → IsTrue (below a (whole y))

abbrev AtNumber : ℕ → Atom → ℕ → Type 0
AtNumber n a y = (y < n) × IsTrue (equal (whole y) a)

abbrev Place : ℕ → Atom → Type 0
Place n a = ((y : ℕ) × AtNumber n a y) ⊎ ((p : ℕ) × Gap n a p)

place : (a : Atom) (n : ℕ) → Place n a
place a zero = inr (0, record { inside = omega arith; under = λ y l. absurd (omega arith); over = λ y l m. absurd (omega arith) })
place a (suc n) = go (place a n)
  where
    last : (p : ℕ) → Gap n a p → p ≡ n → IsTrue (below (whole n) a) ⊎ (IsTrue (equal (whole n) a) ⊎ IsTrue (below a (whole n))) → Place (suc n) a
    last p g e (inl l) = inr (n + 1, record { inside = omega arith; under = λ y m. below_to y m (cases_lt y n); over = λ y k m. absurd (omega arith) })
      where
        below_to : (y : ℕ) → y < n + 1 → (y < n) ⊎ (n ≤ y) → IsTrue (below (whole y) a)
        below_to y m (inl k) = g.under y (omega arith)
        below_to y m (inr k) = let same : n ≡ y = omega arith in subst (λ z. IsTrue (below (whole z) a)) same l
    last p g e (inr (inl q)) = inl (n, (omega arith, q))
    last p g e (inr (inr l)) = inr (p, record { inside = omega (arith, g.inside); under = g.under; over = λ y k m. let same : n ≡ y = omega arith in subst (λ z. IsTrue (below a (whole z))) same l })

    earlier : (p : ℕ) → Gap n a p → p < n → Place (suc n) a
    earlier p g l = inr (p, record { inside = omega (arith, g.inside); under = g.under; over = λ y k m. above y k m (cases_lt y n) })
      where
        above : (y : ℕ) → p ≤ y → y < suc n → (y < n) ⊎ (n ≤ y) → IsTrue (below a (whole y))
        above y k m (inl b) = g.over y k b
        above y k m (inr b) =
            below_trans a (whole p) (whole y) (g.over p (omega arith) l) (below_whole p y ∙ lt-ltb p y (omega arith))

    go : Place n a → Place (suc n) a
    go (inl (y, at)) = inl (y, (omega (arith, at.0), at.1))
    go (inr (p, g)) = split (cases_lt p n)
      where
        split : (p < n) ⊎ (n ≤ p) → Place (suc n) a
        split (inl l) = earlier p g l
        split (inr l) = last p g (omega (arith, g.inside)) (trichotomy (whole n) a)

-- ---- the two numbers that are tried at a place
abbrev same_number : List ℕ → ℕ → List ℕ
same_number s p = s ++ p ∷ []

abbrev new_number : List ℕ → ℕ → List ℕ
new_number s p = map (raised_from p) s ++ p ∷ []

raised_keeps : (p y z : ℕ) → ltb (raised_from p y) (raised_from p z) ≡ ltb y z
raised_keeps p y z = grind (arith, nat_tests)

module _ (s : List ℕ) (small : All (λ i. i < length s) s) (g : List (List Lit)) (fits : ConstraintFits (length s + 1) g) (a : Atom) where
  at_same : (y : ℕ) → IsTrue (equal (whole y) a) → holds (sampled s ++ a ∷ []) g ≡ holds (sampled (same_number s y)) g
  at_same y e =
      placed_holds s s a (λ i. i) y (sym (map-id s)) small (λ i j. refl)
      (λ z l. sym (below_respects (whole z) (whole z) (whole y) a (equal_refl (whole z)) e) ∙ below_whole z y)
      (λ z l. sym (below_respects (whole y) a (whole z) (whole z) e (equal_refl (whole z))) ∙ below_whole y z)
      g fits

  in_gap : (p : ℕ) → Gap (length s) a p → holds (sampled s ++ a ∷ []) g ≡ holds (sampled (new_number s p)) g
  in_gap p gap =
      placed_holds s (map (raised_from p) s) a (raised_from p) p refl small (raised_keeps p) (λ y l. under y l (cases_lt y p)) (λ y l. over y l (cases_lt y p)) g fits
    where
      under : (y : ℕ) → y < length s → (y < p) ⊎ (p ≤ y) → below (whole y) a ≡ ltb (raised_from p y) p
      under y l (inl m) = gap.under y m ∙ (grind (arith, nat_tests))
      under y l (inr m) = below_asym a (whole y) (gap.over y m l) ∙ (grind (arith, nat_tests))

      over : (y : ℕ) → y < length s → (y < p) ⊎ (p ≤ y) → below a (whole y) ≡ ltb p (raised_from p y)
      over y l (inl m) = below_asym (whole y) a (gap.under y m) ∙ (grind (arith, nat_tests))
      over y l (inr m) = gap.over y m l ∙ (grind (arith, nat_tests))

-- the constraint holds at neither
abbrev pub FailsAt : List ℕ → List (List Lit) → ℕ → Type 0
FailsAt s g p = IsFalse (holds (sampled (s ++ p ∷ [])) g) × IsFalse (holds (sampled (map (raised_from p) s ++ p ∷ [])) g)

pub no_place : (s : List ℕ) (g : List (List Lit)) → All (λ i. i < length s) s → ConstraintFits (length s + 1) g → ((p : ℕ) → p < length s + 1 → FailsAt s g p) → (a : Atom) → IsFalse (holds (sampled s ++ a ∷ []) g)
no_place s g small fits fails a = go (place a (length s))
  where
    go : Place (length s) a → IsFalse (holds (sampled s ++ a ∷ []) g)
    go (inl (y, at)) = at_same s small g fits a y at.1 ∙ (fails y (omega (arith, at.0))).0
    go (inr (p, gap)) = in_gap s small g fits a p gap ∙ (fails p (omega (arith, gap.inside))).1

pub new_small : (s : List ℕ) (p : ℕ) → All (λ i. i < length s) s → p < length s + 1 → IsSmall (length s + 1) (map (raised_from p) s ++ p ∷ [])
new_small s p small l = record {
  count = omega (arith, length-append (map (raised_from p) s) (p ∷ []), length-map s (raised_from p));
  small = All-append (λ i. i < length s + 1) (map (raised_from p) s) (p ∷ []) (All-map (λ i. i < length s + 1) (raised_from p) s (All-weaker (λ i. i < length s) (λ i. raised_from p i < length s + 1) (λ i m. raised_small i m) s small)) (All-cons (λ i. i < length s + 1) p [] l (All-nil (λ i. i < length s + 1)));
}
  where
    raised_small : (i : ℕ) → i < length s → raised_from p i < length s + 1
    raised_small i m = grind (arith, nat_tests)
