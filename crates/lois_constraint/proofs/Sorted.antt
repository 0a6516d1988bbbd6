-- Lists that are sorted, and what is left where neighbours that are the same are dropped.
use Rattle.std.proofs.Common.{◌≡◌, ◌≢◌, ℕ, zero, suc, ◌<◌, Bool, true, false, cond, ◌⊎◌, inl, inr, List, [], ◌∷◌, length, get_or, refl, sym, ap, ◌∙◌, subst, arith, swap}
use Rattle.std.specs.Cmp.{IsStrictWeakOrder}
use Rattle.std.specs.List.{All, AllPairs, dedup, dedup_from}
use Rattle.std.specs.List.Sorted.{IsSortedBy, IsPermutation}
use Rattle.std.proofs.lemmas.Bool.{cases_eq, cases_order}
use Rattle.std.proofs.lemmas.List.Edits.{Swapped, swapped_from_swap, length-swap}
use Rattle.std.proofs.lemmas.List.Elements.{All-cons, All-head, All-tail}
use Rattle.std.proofs.lemmas.List.Filters.{All-dedup}
use Rattle.std.proofs.lemmas.List.Kept.{AllPairs-cons}
use Rattle.std.proofs.lemmas.List.Sorted.{sorted_far, IsPermutation-keeps}
use Rattle.lois_constraint.proofs.Linked.{not_true, clash}

module _ {X : Type 0} (R : X → X → Type 0) where
  AllPairs-head : (x : X) (xs : List X) → AllPairs R (x ∷ xs) → All (R x) xs
  AllPairs-head x xs p = λ k d l. p zero (suc k) d (omega arith) (omega arith)

  AllPairs-tail : (x : X) (xs : List X) → AllPairs R (x ∷ xs) → AllPairs R xs
  AllPairs-tail x xs p = λ i j d l m. p (suc i) (suc j) d (omega arith) (omega arith)

  pub AllPairs-single : (x : X) → AllPairs R (x ∷ [])
  AllPairs-single x = λ i j d l m. absurd (omega arith)

  -- ---- pairs in another order
  module _ (turn : (a b : X) → R a b → R b a) where
    either_way : (xs : List X) → AllPairs R xs → (i j : ℕ) (d : X) → (i ≡ j → ⊥) → i < length xs → j < length xs → R (get_or xs i d) (get_or xs j d)
    either_way xs h i j d apart l m = go (cases_order i j)
      where
        go : (i ≡ j) ⊎ ((i < j) ⊎ (j < i)) → R (get_or xs i d) (get_or xs j d)
        go (inl same) = absurd (apart same)
        go (inr (inl less)) = h i j d less m
        go (inr (inr less)) = turn (get_or xs j d) (get_or xs i d) (h j i d less l)

    -- where the element at m of a list with two elements swapped comes from
    record Origin (xs : List X) (i j m : ℕ) (d : X) : Type 0 where
      from : ℕ
      inside : from < length xs
      is : get_or (swap xs i j) m d ≡ get_or xs from d
      bit_index : ((m ≡ i) × (from ≡ j)) ⊎ (((m ≡ j) × (from ≡ i)) ⊎ ((m ≡ i → ⊥) × (m ≡ j → ⊥) × (from ≡ m)))

    origin : (xs : List X) (i j m : ℕ) (d : X) → i < length xs → j < length xs → m < length xs → Origin xs i j m d
    origin xs i j m d l r b = go (cases_eq m i) (cases_eq m j)
      where
        swapped : Swapped (λ k. get_or xs k d) (λ k. get_or (swap xs i j) k d) i j
        swapped = swapped_from_swap xs (swap xs i j) i j d l r refl

        go : (m ≡ i) ⊎ (m ≡ i → ⊥) → (m ≡ j) ⊎ (m ≡ j → ⊥) → Origin xs i j m d
        go (inl e) k = record {
          from = j;
          inside = r;
          is = ap (λ n. get_or (swap xs i j) n d) e ∙ swapped.0;
          bit_index = inl (e, refl);
        }
        go (inr h) (inl e) = record {
          from = i;
          inside = l;
          is = ap (λ n. get_or (swap xs i j) n d) e ∙ swapped.1;
          bit_index = inr (inl (e, refl));
        }
        go (inr h) (inr k) = record { from = m; inside = b; is = swapped.2 m h k; bit_index = inr (inr (h, k, refl)) }

    from_apart : (xs : List X) (i j m n : ℕ) (d : X) (p : Origin xs i j m d) (q : Origin xs i j n d) → m < n → p.from ≡ q.from → ⊥
    from_apart xs i j m n d p q l e = go p.bit_index q.bit_index
      where
        go : ((m ≡ i) × (p.from ≡ j)) ⊎ (((m ≡ j) × (p.from ≡ i)) ⊎ ((m ≡ i → ⊥) × (m ≡ j → ⊥) × (p.from ≡ m))) → ((n ≡ i) × (q.from ≡ j)) ⊎ (((n ≡ j) × (q.from ≡ i)) ⊎ ((n ≡ i → ⊥) × (n ≡ j → ⊥) × (q.from ≡ n))) → ⊥
        go (inl a) (inl b) = omega (arith, a.0, b.0)
        go (inl a) (inr (inl b)) = omega (arith, a.0, a.1, b.0, b.1)
        go (inl a) (inr (inr b)) = b.1 (sym b.2 ∙ (sym e ∙ a.1))
        go (inr (inl a)) (inl b) = omega (arith, a.0, a.1, b.0, b.1)
        go (inr (inl a)) (inr (inl b)) = omega (arith, a.0, b.0)
        go (inr (inl a)) (inr (inr b)) = b.0 (sym b.2 ∙ (sym e ∙ a.1))
        go (inr (inr a)) (inl b) = a.1 (sym a.2 ∙ (e ∙ b.1))
        go (inr (inr a)) (inr (inl b)) = a.0 (sym a.2 ∙ (e ∙ b.1))
        go (inr (inr a)) (inr (inr b)) = omega (arith, a.2, b.2)

    swapped_pairs : (xs : List X) (i j : ℕ) → i < length xs → j < length xs → AllPairs R xs → AllPairs R (swap xs i j)
    swapped_pairs xs i j l r h = λ m n d less b.
        let inside : n < length xs = omega (arith, length-swap xs i j) in
        let p : Origin xs i j m d = origin xs i j m d l r (omega arith) in
        let q : Origin xs i j n d = origin xs i j n d l r inside in
        subst (λ x. R x (get_or (swap xs i j) n d)) (sym p.is) (subst (R (get_or xs p.from d)) (sym q.is) (either_way xs h p.from q.from d (from_apart xs i j m n d p q less) p.inside q.inside))

    pub pairs_permuted : (xs ys : List X) → IsPermutation xs ys → AllPairs R xs → AllPairs R ys
    pairs_permuted xs ys p h = IsPermutation-keeps xs (AllPairs R) h swapped_pairs ys p

-- ---- what goes before what
module _ {X : Type 0} (before : X → X → Bool) (trans : (a b c : X) → before a b ≡ true → before b c ≡ true → before a c ≡ true) (itself : (a : X) → before a a ≡ false) (equal : (a b : X) → before a b ≡ false → before b a ≡ false → a ≡ b) where
  rises_at : (a b : X) (i : Bool) → before a b ≡ i → before b a ≡ false → a ≢ b → before a b ≡ true
  rises_at a b true e h apart = e
  rises_at a b false e h apart = absurd (apart (equal a b e h))

  pub rises : (a b : X) → before b a ≡ false → a ≢ b → before a b ≡ true
  rises a b h apart = rises_at a b (before a b) refl h apart

  chain_at : (x y z : X) (i : Bool) → before y x ≡ i → before x y ≡ false → before y z ≡ false → before x z ≡ true → ⊥
  chain_at x y z true e h k t = clash (before y z) (trans y x z e t) k
  chain_at x y z false e h k t =
      let same : x ≡ y = equal x y h e in clash (before y z) (subst (λ w. before w z ≡ true) same t) k

  pub is_strict : IsStrictWeakOrder before
  is_strict = record {
    one_way = λ x y h. not_true (before y x) (λ k. clash (before x x) (trans x y x h k) (itself x));
    chain = λ x y z h k. not_true (before x z) (chain_at x y z (before y x) refl h k);
  }

  -- each element and those after it
  pub sorted_pairs : (xs : List X) → IsSortedBy before xs → AllPairs (λ a b. before b a ≡ false) xs
  sorted_pairs xs up = λ i j d l m. sorted_far before is_strict xs up i j d (omega arith) m

  onwards_at : (w x y : X) (i : Bool) → before w y ≡ i → before w x ≡ true → before y x ≡ false → before w y ≡ true
  onwards_at w x y true e h k = e
  onwards_at w x y false e h k = clash (before w x) h (is_strict.chain w y x e k)

  -- ---- without repeated neighbours
  module _ (same : X → X → Bool) (alike : (a b : X) → same a b ≡ true → a ≡ b) (reflexive : (a : X) → same a a ≡ true) where
    abbrev NotAfter : X → X → Type 0
    NotAfter a b = before b a ≡ false

    abbrev Before : X → X → Type 0
    Before a b = before a b ≡ true

    differ : (x k : X) → same x k ≡ false → k ≢ x
    differ x k h e = clash (same x k) (subst (λ w. same x w ≡ true) (sym e) (reflexive x)) h

    increasing_step : (k x : X) (xs : List X) (i : Bool) → same x k ≡ i → AllPairs NotAfter (k ∷ (x ∷ xs)) → AllPairs Before (dedup_from same k xs) → AllPairs Before (dedup_from same x xs) → AllPairs Before (cond i (dedup_from same k xs) (k ∷ dedup_from same x xs))
    increasing_step k x xs true e h dropped kept = dropped
    increasing_step k x xs false e h dropped kept =
        let after : All (NotAfter k) (x ∷ xs) = AllPairs-head NotAfter k (x ∷ xs) h in
        let next : before k x ≡ true = rises k x (All-head (NotAfter k) x xs after) (differ x k e) in
        let rest : All (NotAfter x) xs = AllPairs-head NotAfter x xs (AllPairs-tail NotAfter k (x ∷ xs) h) in
        let all : All (Before k) (x ∷ xs) = All-cons (Before k) x xs next (λ i d l. onwards_at k x (get_or xs i d) (before k (get_or xs i d)) refl next (rest i d l)) in
        AllPairs-cons Before k (dedup_from same x xs) (All-dedup same (Before k) (x ∷ xs) all) kept

    increasing_from : (k : X) (xs : List X) → AllPairs NotAfter (k ∷ xs) → AllPairs Before (dedup_from same k xs)
    increasing_from k [] h = AllPairs-single Before k
    increasing_from k (x ∷ xs) h =
        let rest : AllPairs NotAfter (x ∷ xs) = AllPairs-tail NotAfter k (x ∷ xs) h in
        let skipped : AllPairs NotAfter (k ∷ xs) = AllPairs-cons NotAfter k xs (All-tail (NotAfter k) x xs (AllPairs-head NotAfter k (x ∷ xs) h)) (AllPairs-tail NotAfter x xs rest) in
        increasing_step k x xs (same x k) refl h (increasing_from k xs skipped) (increasing_from x xs rest)

    pub dedup_increases : (xs : List X) → AllPairs NotAfter xs → AllPairs Before (dedup same xs)
    dedup_increases [] h = λ i j d l m. absurd (omega arith)
    dedup_increases (x ∷ xs) h = increasing_from x xs h
