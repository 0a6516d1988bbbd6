-- Pairs in the order of the shapes of their parts, and what is made of comprehensions of pairs.
use Rattle.std.proofs.Common.{◌≡◌, ℕ, ◌≤◌, Bool, ◌⊎◌, inl, inr, ◌↔◌, List, ◌++◌, length, sym, subst, arith}
use Rattle.std.proofs.lemmas.Bool.{cases_lt}
use Rattle.lois_base.specs.Atom.{Atom}
use Rattle.lois_base.specs.Data.{TermD, coll, comp, CompsD}
use Rattle.lois_base.specs.Fits.{Fits}
use Rattle.lois_base.specs.Validity.{AdmitsTerm, HasBoundedWidths}
use Rattle.lois_base.specs.Values.{PointValue, point, IsSame, IsIn}
use Rattle.lois_base.specs.declared.guards.Lit.{Lit}
use Rattle.lois_base.proofs.Members.{same_refl, same_sym, same_trans}
use Rattle.lois_algebra.specs.Gathered.{IsAmong, IsCompMember, IsPut}
use Rattle.lois_algebra.specs.Sets.{IsUnion}
use Rattle.lois_terms.specs.Shapes.{shape_of}
use Rattle.lois_terms.proofs.Shapes.{one_shape}
use Rattle.lois_meaning.specs.Automata.{IsPair}
use Rattle.lois_meaning.proofs.Operations.{pair_exists, pair_same, pair_to}
use Rattle.lois_meaning.proofs.Tuples.{pair_parts}
use Rattle.lois_automata.specs.Adding.{IsMadeOfOne}
use Rattle.lois_automata.specs.Projections.{AddsOfOne, pair_of}
use Rattle.lois_automata.proofs.Adding.{added_put, adds_nothing, one_among}
use Rattle.lois_automata.proofs.Written.{pair_here, pair_is, pair_term}
use Rattle.lois_minimise.specs.Classes.{AreBothWays, AreMadeOf, IsBefore, IsInOrder, IsOrderedPair, IsOrderedTerm, IsTurned}

-- ---- the order
pub before_same : (p q p' q' : PointValue) → IsSame p p' → IsSame q q' → IsBefore p q → IsBefore p' q'
before_same p q p' q' s t h =
    subst (λ z. z ≤ shape_of q'.term_of) (one_shape p.term_of p'.term_of p.choice p'.choice s) (subst (λ z. shape_of p.term_of ≤ z) (one_shape q.term_of q'.term_of q.choice q'.choice t) h)

pub before_or : (p q : PointValue) → IsBefore p q ⊎ (IsBefore p q → ⊥)
before_or p q = elim (cases_lt (shape_of q.term_of) (shape_of p.term_of)) [
  | inl h ↦ inr (λ k. omega (arith, h, k))
  | inr h ↦ inl h
]

pub turned_before : (p q : PointValue) → (IsBefore p q → ⊥) → IsBefore q p
turned_before p q never = elim (cases_lt (shape_of q.term_of) (shape_of p.term_of)) [
  | inl h ↦ omega (arith, h)
  | inr h ↦ absurd (never h)
]

pub ordered_to : (x y p q : PointValue) → IsSame x y → IsOrderedPair x p q → IsOrderedPair y p q
ordered_to x y p q s h = elim h [
  | inl k ↦ inl (k.0, pair_to x y p q s k.1)
  | inr k ↦ inr (k.0, pair_to x y q p s k.1)
]

pub ordered_parts : (x p q p' q' : PointValue) → IsSame p p' → IsSame q q' → IsOrderedPair x p q → IsOrderedPair x p' q'
ordered_parts x p q p' q' s t h = elim h [
  | inl k ↦ inl (before_same p q p' q' s t k.0, pair_parts x p q p' q' s t k.1)
  | inr k ↦ inr (λ b. k.0 (before_same p' q' p q (same_sym p p' s) (same_sym q q' t) b), pair_parts x q p q' p' t s k.1)
]

pub ordered_exists : (p q : PointValue) → (x : PointValue) × IsOrderedPair x p q
ordered_exists p q = elim (before_or p q) [
  | inl h ↦ let x : (x : PointValue) × IsPair x p q = pair_exists p q in (x.0, inl (h, x.1))
  | inr h ↦ let x : (x : PointValue) × IsPair x q p = pair_exists q p in (x.0, inr (h, x.1))
]

-- the term of the two in order
pub ordered_is : (a b r : TermD) (d : List Atom) → IsOrderedTerm a b r → IsOrderedPair (point r d) (point a d) (point b d)
ordered_is a b r d h = elim h [
  | inl k ↦ inl (k.0, subst (λ z. IsPair (point z d) (point a d) (point b d)) (sym k.1) (pair_is a b d))
  | inr k ↦ inr (k.0, subst (λ z. IsPair (point z d) (point b d) (point a d)) (sym k.1) (pair_is b a d))
]

pub ordered_same : (x y p q : PointValue) → IsOrderedPair x p q → IsOrderedPair y p q → IsSame x y
ordered_same x y p q h h' = elim h [
  | inl k ↦ elim h' [
    | inl k' ↦ pair_same x y p q p q (same_refl p) (same_refl q) k.1 k'.1
    | inr k' ↦ absurd (k'.0 k.0)
  ]
  | inr k ↦ elim h' [
    | inl k' ↦ absurd (k.0 k'.0)
    | inr k' ↦ pair_same x y q p q p (same_refl q) (same_refl p) k.1 k'.1
  ]
]

pub ordered_fits : (n : ℕ) (a b r : TermD) → IsOrderedTerm a b r → Fits n a → Fits n b → Fits n r
ordered_fits n a b r h f f' = elim h [
  | inl k ↦ subst (Fits n) (sym k.1) (f, (f', tt))
  | inr k ↦ subst (Fits n) (sym k.1) (f', (f, tt))
]

pub ordered_admits : (o : Bool) (a b r : TermD) → IsOrderedTerm a b r → AdmitsTerm o a → AdmitsTerm o b → AdmitsTerm o r
ordered_admits o a b r h f f' = elim h [
  | inl k ↦ subst (AdmitsTerm o) (sym k.1) (f, (f', tt))
  | inr k ↦ subst (AdmitsTerm o) (sym k.1) (f', (f, tt))
]

pub ordered_usual : (a b r : TermD) → IsOrderedTerm a b r → HasBoundedWidths (pair_of a b) → HasBoundedWidths r
ordered_usual a b r h u = elim h [
  | inl k ↦ subst HasBoundedWidths (sym k.1) u
  | inr k ↦ subst HasBoundedWidths (sym k.1) (u.0, u.1, (u.2.1.0, (u.2.0, tt)))
]

-- ---- what is made of one comprehension
-- the members of a comprehension are pairs of the values of its parts
module _ (m : ℕ) (g : List (List Lit)) (a b : TermD) (c : List Atom) (w : PointValue) where
  parts_here : (e : List Atom) (x p q : PointValue) → IsSame (point (pair_of a b) (c ++ e)) x → IsPair x p q → IsSame p (point a (c ++ e)) × IsSame q (point b (c ++ e))
  parts_here e x p q s pair =
      let d = c ++ e in
      pair_here a b d p q (pair_to x (point (pair_of a b) d) p q (same_sym (point (pair_of a b) d) x s) pair)

  made_in_order : shape_of a ≤ shape_of b → IsCompMember (comp m g (pair_of a b)) c w ↔ IsMadeOfOne IsInOrder (IsCompMember (comp m g (pair_of a b)) c) w
  made_in_order h = (there, back)
    where
      there : IsCompMember (comp m g (pair_of a b)) c w → IsMadeOfOne IsInOrder (IsCompMember (comp m g (pair_of a b)) c) w
      there (e, ext, s) =
          let d = c ++ e in
          (w, (e, ext, s), (same_refl w, (point a d, point b d, pair_to (point (pair_of a b) d) w (point a d) (point b d) s (pair_is a b d), h)))

      back : IsMadeOfOne IsInOrder (IsCompMember (comp m g (pair_of a b)) c) w → IsCompMember (comp m g (pair_of a b)) c w
      back (x, (e, ext, s), (s', _)) = (e, ext, same_trans (point (pair_of a b) (c ++ e)) x w s s')

  not_in_order : (shape_of a ≤ shape_of b → ⊥) → IsMadeOfOne IsInOrder (IsCompMember (comp m g (pair_of a b)) c) w → ⊥
  not_in_order never (x, (e, ext, s), (s', (p, q, pair, h))) =
      let f = parts_here e x p q s pair in
      never (before_same p q (point a (c ++ e)) (point b (c ++ e)) f.0 f.1 h)

  made_turned : (shape_of b ≤ shape_of a → ⊥) → IsCompMember (comp m g (pair_of b a)) c w ↔ IsMadeOfOne IsTurned (IsCompMember (comp m g (pair_of a b)) c) w
  made_turned never = (there, back)
    where
      there : IsCompMember (comp m g (pair_of b a)) c w → IsMadeOfOne IsTurned (IsCompMember (comp m g (pair_of a b)) c) w
      there (e, ext, s) =
          let d = c ++ e in
          (point (pair_of a b) d, (e, ext, same_refl (point (pair_of a b) d)), (point a d, point b d, pair_is a b d, pair_to (point (pair_of b a) d) w (point b d) (point a d) s (pair_is b a d), never))

      back : IsMadeOfOne IsTurned (IsCompMember (comp m g (pair_of a b)) c) w → IsCompMember (comp m g (pair_of b a)) c w
      back (x, (e, ext, s), (p, q, pair, pair', _)) =
          let d = c ++ e in
          let f = parts_here e x p q s pair in
          (e, ext, pair_same (point (pair_of b a) d) w (point b d) (point a d) q p (same_sym q (point b d) f.1) (same_sym p (point a d) f.0) (pair_is b a d) pair')

  not_turned : shape_of b ≤ shape_of a → IsMadeOfOne IsTurned (IsCompMember (comp m g (pair_of a b)) c) w → ⊥
  not_turned h (x, (e, ext, s), (p, q, pair, pair', never)) =
      let d = c ++ e in
      let f = parts_here e x p q s pair in
      never (before_same (point b d) (point a d) q p (same_sym q (point b d) f.1) (same_sym p (point a d) f.0) h)

module _ (n m : ℕ) (g : List (List Lit)) (a b : TermD) (before : CompsD) where
  pub adds_in_order : (after : CompsD) → shape_of a ≤ shape_of b → IsPut (comp m g (pair_of a b)) before after → AddsOfOne IsInOrder n (comp m g (pair_of a b)) before after
  adds_in_order after h put = added_put n (comp m g (pair_of a b)) _ _ _ _ before after put (λ c _ w. made_in_order m g a b c w h) (λ f. f) (λ o k. k) (λ u. u)

  pub out_of_order : (shape_of a ≤ shape_of b → ⊥) → AddsOfOne IsInOrder n (comp m g (pair_of a b)) before before
  out_of_order never = adds_nothing n _ _ _ _ before (λ c _ w. not_in_order m g a b c w never)

  pub adds_turned : (after : CompsD) → (shape_of b ≤ shape_of a → ⊥) → IsPut (comp m g (pair_of b a)) before after → AddsOfOne IsTurned n (comp m g (pair_of a b)) before after
  adds_turned after never put = added_put n (comp m g (pair_of b a)) _ _ _ _ before after put (λ c _ w. made_turned m g a b c w never)
      (λ f. (f.0, f.1, (f.2.1.0, (f.2.0, tt)))) (λ o k. (k.0, (k.1.1.0, (k.1.0, tt)))) (λ u. (u.0, u.1, (u.2.1.0, (u.2.0, tt))))

  pub of_one_order : shape_of b ≤ shape_of a → AddsOfOne IsTurned n (comp m g (pair_of a b)) before before
  of_one_order h = adds_nothing n _ _ _ _ before (λ c _ w. not_turned m g a b c w h)

-- a comprehension whose item is no pair has no pairs
module _ (R : PointValue → PointValue → Type 0) (pairs : (x w : PointValue) → R x w → (p q : PointValue) × IsPair x p q) where
  pub of_no_pair : (n m : ℕ) (g : List (List Lit)) (t : TermD) (before : CompsD) → ((a b : TermD) → t ≡ pair_of a b → ⊥) → AddsOfOne R n (comp m g t) before before
  of_no_pair n m g t before never = adds_nothing n _ _ _ _ before none
    where
      none : (c : List Atom) → length c ≡ n → (w : PointValue) → IsMadeOfOne R (IsCompMember (comp m g t) c) w → ⊥
      none c l w (x, (e, ext, s), r) =
          let d = c ++ e in
          let h = pairs x w r in
          let f = pair_term t d h.0 h.1 (pair_to x (point t d) h.0 h.1 (same_sym (point t d) x s) h.2) in
          never f.0 f.1 f.2

pub in_order_pair : (x w : PointValue) → IsInOrder x w → (p q : PointValue) × IsPair x p q
in_order_pair x w h = (h.1.0, h.1.1, h.1.2)

pub turned_pair : (x w : PointValue) → IsTurned x w → (p q : PointValue) × IsPair x p q
turned_pair x w h = (h.0, h.1, h.2)

-- ---- as sets
pub are_made : (R : PointValue → PointValue → Type 0) (n : ℕ) (whole made : CompsD) → ((c : List Atom) → length c ≡ n → (w : PointValue) → IsIn w (point (coll made) c) ↔ IsMadeOfOne R (IsAmong whole c) w) → AreMadeOf R n (coll whole) (coll made)
are_made R n whole made same c l w = (
  λ i. (one_among (λ _. R) whole c w).0 ((same c l w).0 i),
  λ h. (same c l w).1 ((one_among (λ _. R) whole c w).1 h),
)

pub are_both_ways : (n : ℕ) (pairs other r : TermD) → AreMadeOf IsTurned n pairs other → IsUnion pairs other r → (c : List Atom) → length c ≡ n → AreBothWays (point pairs c) (point r c)
are_both_ways n pairs other r turned all c l w = (
  λ i. elim ((all c w).0 i) [
    | inl k ↦ inl k
    | inr k ↦ inr ((turned c l w).0 k)
  ],
  λ h. (all c w).1 (elim h [
    | inl k ↦ inl k
    | inr k ↦ inr ((turned c l w).1 k)
  ]),
)
