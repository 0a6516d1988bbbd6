-- Places of numbers among different values.
use Rattle.std.proofs.Common.{◌≡◌, ℕ, ◌+◌, ◌<◌, ◌≤◌, ◌⊎◌, inl, inr, List, [], ◌∷◌, ◌++◌, length, get_or, take, refl, sym, ap, ◌∙◌, subst, arith}
use Rattle.std.proofs.lemmas.List.{get_or_append_left, get_or_default, get_or_push, length_push, take-append-le, take_all}
use Rattle.std.proofs.lemmas.List.Elements.{All-from_get_or, Contains-append_left, Contains-push}
use Rattle.std.proofs.lemmas.List.Kept.{AllPairs-from_increasing}
use Rattle.std.specs.List.{All, Contains}
use Rattle.std.specs.List.Sorted.{IsStrictlyIncreasing}
use Rattle.lois_ranks.specs.Numberings.{AreDifferent, ArePlaces, IsNumbering, IsPlacedIn, StandsAt}
use Rattle.lois_ranks.specs.Ranks.{ComeInTurn, HaveNoGaps}
use Rattle.lois_ranks.proofs.Alike.{EqualAlike, BelowAlike}

-- a number at a position is in the list, and the other way round
contained : (xs : List ℕ) (i x : ℕ) → i < length xs → get_or xs i 0 ≡ x → Contains xs x
contained xs i x l e = (i, l, get_or_default xs i x 0 l ∙ e)

found : (xs : List ℕ) (x : ℕ) (h : Contains xs x) → get_or xs h.0 0 ≡ x
found xs x (i, l, e) = get_or_default xs i 0 x l ∙ e

-- a position of a list with one item more
at_or_last : (i n : ℕ) → i < n + 1 → (i < n) ⊎ (i ≡ n)
at_or_last i n l = grind arith

-- ---- one number more
pub places_more : (values xs ps : List ℕ) (x p : ℕ) → ArePlaces values xs ps → StandsAt values x p → ArePlaces values (xs ++ x ∷ []) (ps ++ p ∷ [])
places_more values xs ps x p h s = record {
  count = omega (arith, length_push xs x, length_push ps p, h.count);
  stand = λ i l. go i (at_or_last i (length xs) (omega (arith, l, length_push xs x)));
}
  where
    go : (i : ℕ) → (i < length xs) ⊎ (i ≡ length xs) → StandsAt values (get_or (xs ++ x ∷ []) i 0) (get_or (ps ++ p ∷ []) i 0)
    go i (inl l) = rw (get_or_append_left xs (x ∷ []) 0 i l, get_or_append_left ps (p ∷ []) 0 i (omega (arith, l, h.count))) (h.stand i l)
    go i (inr e) = rw (get_or_push xs x 0 i (sym e), get_or_push ps p 0 i (h.count ∙ sym e)) s

-- among more values
stands_still : (values : List ℕ) (y x p : ℕ) → StandsAt values x p → StandsAt (values ++ y ∷ []) x p
stands_still values y x p s = record {
  inside = omega (arith, s.inside, length_push values y);
  there = get_or_append_left values (y ∷ []) 0 p s.inside ∙ s.there;
}

places_still : (values xs ps : List ℕ) (y : ℕ) → ArePlaces values xs ps → ArePlaces (values ++ y ∷ []) xs ps
places_still values xs ps y h = record { count = h.count; stand = λ i l. stands_still values y (get_or xs i 0) (get_or ps i 0) (h.stand i l) }

-- ---- numbers in turn
turn_more : (ps : List ℕ) (p : ℕ) → ComeInTurn ps → ((k : ℕ) → k < p → Contains ps k) → ComeInTurn (ps ++ p ∷ [])
turn_more ps p h below i k l m = go (at_or_last i (length ps) (omega (arith, l, length_push ps p)))
  where
    go : (i < length ps) ⊎ (i ≡ length ps) → Contains (take i (ps ++ p ∷ [])) k
    go (inl in_old) =
        subst (λ z. Contains z k) (sym (take-append-le i ps (p ∷ []) (omega (arith, in_old)))) (h i k in_old (subst (λ z. k < z) (get_or_append_left ps (p ∷ []) 0 i in_old) m))
    go (inr e) =
        subst (λ z. Contains z k) (sym (take-append-le i ps (p ∷ []) (omega (arith, e)) ∙ all)) (below k (subst (λ z. k < z) (get_or_push ps p 0 i (sym e)) m))
      where
        all : take i ps ≡ ps
        all = take_all i ps (omega (arith, e))

different_more : (values : List ℕ) (x : ℕ) → AreDifferent values → (Contains values x → ⊥) → AreDifferent (values ++ x ∷ [])
different_more values x h none i k l m e =
    go (at_or_last i (length values) (omega (arith, l, length_push values x))) (at_or_last k (length values) (omega (arith, m, length_push values x)))
  where
    old : (j : ℕ) → j < length values → get_or (values ++ x ∷ []) j 0 ≡ get_or values j 0
    old j b = get_or_append_left values (x ∷ []) 0 j b

    last : (j : ℕ) → j ≡ length values → get_or (values ++ x ∷ []) j 0 ≡ x
    last j b = get_or_push values x 0 j (sym b)

    go : (i < length values) ⊎ (i ≡ length values) → (k < length values) ⊎ (k ≡ length values) → i ≡ k
    go (inl a) (inl b) = h i k a b (sym (old i a) ∙ (e ∙ old k b))
    go (inl a) (inr b) = absurd (none (contained values i x a (sym (old i a) ∙ (e ∙ last k b))))
    go (inr a) (inl b) = absurd (none (contained values k x b (sym (old k b) ∙ (sym e ∙ last i a))))
    go (inr a) (inr b) = a ∙ sym b

pub numbering_more : (xs values ps new : List ℕ) (x p : ℕ) → IsNumbering xs values ps → IsPlacedIn values x new p → IsNumbering (xs ++ x ∷ []) new (ps ++ p ∷ [])
numbering_more xs values ps new x p h (inl (same, s)) = subst (λ z. IsNumbering (xs ++ x ∷ []) z (ps ++ p ∷ [])) (sym same) (record {
  different = h.different;
  stand = places_more values xs ps x p h.stand s;
  turn = turn_more ps p h.turn (λ k l. h.used k (omega (arith, l, s.inside)));
  used = λ k l. Contains-append_left ps (p ∷ []) k (h.used k l);
  short = omega (arith, h.short, length_push xs x);
})
numbering_more xs values ps new x p h (inr (more, last, none)) = subst (λ z. IsNumbering (xs ++ x ∷ []) z (ps ++ p ∷ [])) (sym more) (record {
  different = different_more values x h.different none;
  stand = places_more (values ++ x ∷ []) xs ps x p (places_still values xs ps x h.stand) (record { inside = omega (arith, last, length_push values x); there = get_or_push values x 0 p (sym last) });
  turn = turn_more ps p h.turn (λ k l. h.used k (omega (arith, l, last)));
  used = λ k l. go k (at_or_last k (length values) (omega (arith, l, length_push values x)));
  short = omega (arith, h.short, length_push xs x, length_push values x);
})
  where
    go : (k : ℕ) → (k < length values) ⊎ (k ≡ length values) → Contains (ps ++ p ∷ []) k
    go k (inl l) = Contains-append_left ps (p ∷ []) k (h.used k l)
    go k (inr e) = subst (Contains (ps ++ p ∷ [])) (last ∙ sym e) (Contains-push ps p)

-- ---- places stand as their numbers do
module _ (values sample places : List ℕ) (h : ArePlaces values sample places) where
  number_of : (i : ℕ) → i < length sample → get_or values (get_or places i 0) 0 ≡ get_or sample i 0
  number_of i l = (h.stand i l).there

  pub equal_places : AreDifferent values → EqualAlike sample places
  equal_places different i j l m = (
    λ e. different (get_or places i 0) (get_or places j 0) (h.stand i l).inside (h.stand j m).inside (number_of i l ∙ (e ∙ sym (number_of j m))),
    λ e. sym (number_of i l) ∙ (ap (λ z. get_or values z 0) e ∙ number_of j m),
  )

  pub below_places : IsStrictlyIncreasing values → BelowAlike sample places
  below_places rising i j l m = (
    λ b. elim (order (get_or places i 0) (get_or places j 0)) [
      | inl low ↦ low
      | inr (inl e) ↦ absurd (omega (arith, b, number_of i l, number_of j m, ap (λ z. get_or values z 0) e))
      | inr (inr high) ↦ absurd (omega (arith, b, number_of i l, number_of j m, rises (get_or places j 0) (get_or places i 0) high (h.stand i l).inside))
    ],
    λ b. omega (arith, number_of i l, number_of j m, rises (get_or places i 0) (get_or places j 0) b (h.stand j m).inside),
  )
    where
      rises : (a b : ℕ) → a < b → b < length values → get_or values a 0 < get_or values b 0
      rises a b l m = AllPairs-from_increasing values rising a b 0 l m

      order : (a b : ℕ) → (a < b) ⊎ ((a ≡ b) ⊎ (b < a))
      order a b = grind arith

  pub places_small : length values ≤ length sample → All (λ n. n < length sample) places
  places_small short = All-from_get_or (λ n. n < length sample) places 0 (λ i l. omega (arith, short, (h.stand i (omega (arith, l, h.count))).inside))

  -- each value is used, so no place is left out
  pub no_gaps : AreDifferent values → ((n : ℕ) → Contains values n → Contains sample n) → HaveNoGaps places
  no_gaps different alone n k there below =
      let i : ℕ = there.0 in
      let inside : i < length sample = omega (arith, there.1, h.count) in
      let k_inside : k < length values = omega (arith, below, found places n there, (h.stand i inside).inside) in
      let used : Contains sample (get_or values k 0) = alone (get_or values k 0) (contained values k (get_or values k 0) k_inside refl) in
      let j : ℕ = used.0 in
      contained places j k (omega (arith, used.1, h.count)) (different (get_or places j 0) k (h.stand j used.1).inside k_inside (number_of j used.1 ∙ found sample (get_or values k 0) used))

pub different_sorted : (values : List ℕ) → IsStrictlyIncreasing values → AreDifferent values
different_sorted values rising i k l m e =
    elim (order i k) [
      | inl low ↦ absurd (omega (arith, e, rises i k low m))
      | inr (inl same) ↦ same
      | inr (inr high) ↦ absurd (omega (arith, e, rises k i high l))
    ]
  where
    rises : (a b : ℕ) → a < b → b < length values → get_or values a 0 < get_or values b 0
    rises a b l m = AllPairs-from_increasing values rising a b 0 l m

    order : (a b : ℕ) → (a < b) ⊎ ((a ≡ b) ⊎ (b < a))
    order a b = grind arith
