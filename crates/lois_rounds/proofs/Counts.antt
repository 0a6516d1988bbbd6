-- How many lists of n numbers below k pass a test: a test that fewer lists pass counts no more, and one that counts as many passes
-- the same lists.
use Rattle.std.proofs.Common.{◌≡◌, ℕ, zero, suc, ◌+◌, ◌<◌, ◌≤◌, inl, inr, Bool, true, false, List, [], ◌∷◌, length, refl, ap, arith}
use Rattle.std.proofs.lemmas.Bool.{cases_lt}
use Rattle.std.proofs.lemmas.List.Elements.{All-nil, All-cons, All-head, All-tail}
use Rattle.std.specs.List.{All}

-- the sum of h over the numbers below k
abbrev total : ℕ → (ℕ → ℕ) → ℕ
total zero h = 0
total (suc k) h = h k + total k h

-- whether a test answers t, as a number
abbrev hit : Bool → Bool → ℕ
hit true true = 1
hit true false = 0
hit false true = 0
hit false false = 1

-- how many lists of n numbers below k there are at which the test answers t
abbrev pub count_lists : Bool → ℕ → ℕ → (List ℕ → Bool) → ℕ
count_lists t k zero test = hit t (test [])
count_lists t k (suc n) test = total k (λ i. count_lists t k n (λ s. test (i ∷ s)))

-- lists of n numbers below k
pub record IsSample (k n : ℕ) (s : List ℕ) : Type 0 where
  pub count : length s ≡ n
  pub small : All (λ i. i < k) s

sample_more : (k n i : ℕ) (s : List ℕ) → i < k → IsSample k n s → IsSample k (suc n) (i ∷ s)
sample_more k n i s l h =
    record { count = ap suc h.count; small = All-cons (λ j. j < k) i s l h.small }

total_at_most : (k : ℕ) (g h : ℕ → ℕ) → ((i : ℕ) → i < k → g i ≤ h i) → total k g ≤ total k h
total_at_most zero g h below = omega arith
total_at_most (suc k) g h below =
    omega (arith, below k (omega arith), total_at_most k g h (λ i l. below i (omega arith)))

-- sums that are equal have equal terms, where no term is greater
total_equal : (k : ℕ) (g h : ℕ → ℕ) → ((i : ℕ) → i < k → g i ≤ h i) → total k h ≤ total k g → (i : ℕ) → i < k → h i ≤ g i
total_equal zero g h below same i l = absurd (omega arith)
total_equal (suc k) g h below same i l =
    elim (cases_lt i k) [ inl lt ↦ total_equal k g h (λ j m. below j (omega arith)) (omega (arith, below k (omega arith))) i lt | inr ge ↦ last ge ]
  where
    last : k ≤ i → h i ≤ g i
    last ge =
        let e : i ≡ k = omega arith in
        rw e (omega (arith, below k (omega arith), total_at_most k g h (λ j m. below j (omega arith))))

hit_at_most : (t p q : Bool) → (p ≡ t → q ≡ t) → hit t p ≤ hit t q
hit_at_most true true q h = rw (h refl) (omega arith)
hit_at_most true false q h = omega arith
hit_at_most false true q h = omega arith
hit_at_most false false q h = rw (h refl) (omega arith)

hit_equal : (t p q : Bool) → hit t q ≤ hit t p → q ≡ t → p ≡ t
hit_equal true true q h e = refl
hit_equal true false true h e = absurd (omega arith)
hit_equal true false false h e = e
hit_equal false false q h e = refl
hit_equal false true false h e = absurd (omega arith)
hit_equal false true true h e = e

-- a test that answers t only where another does
abbrev pub Within : Bool → ℕ → ℕ → (List ℕ → Bool) → (List ℕ → Bool) → Type 0
Within t k n p q = (s : List ℕ) → IsSample k n s → p s ≡ t → q s ≡ t

pub count_at_most : (t : Bool) (k n : ℕ) (p q : List ℕ → Bool) → Within t k n p q → count_lists t k n p ≤ count_lists t k n q
count_at_most t k zero p q within =
    hit_at_most t (p []) (q []) (within [] (record { count = refl; small = All-nil (λ i. i < k) }))
count_at_most t k (suc n) p q within =
    total_at_most k _ _ (λ i l. count_at_most t k n (λ s. p (i ∷ s)) (λ s. q (i ∷ s)) (λ s h. within (i ∷ s) (sample_more k n i s l h)))

pub count_equal : (t : Bool) (k n : ℕ) (p q : List ℕ → Bool) → Within t k n p q → count_lists t k n q ≤ count_lists t k n p → Within t k n q p
count_equal t k zero p q within same s h e = empty s h.count e
  where
    empty : (s : List ℕ) → length s ≡ 0 → q s ≡ t → p s ≡ t
    empty [] l e = hit_equal t (p []) (q []) same e
    empty (i ∷ s) l e = absurd (omega arith)
count_equal t k (suc n) p q within same [] h e = absurd (omega (arith, h.count))
count_equal t k (suc n) p q within same (i ∷ s) h e =
    let below : i < k = All-head (λ j. j < k) i s h.small in
    let inner : (j : ℕ) → j < k → Within t k n (λ r. p (j ∷ r)) (λ r. q (j ∷ r)) =
    λ j m r d. within (j ∷ r) (sample_more k n j r m d) in
    let as_many : count_lists t k n (λ r. q (i ∷ r)) ≤ count_lists t k n (λ r. p (i ∷ r)) =
    total_equal k (λ j. count_lists t k n (λ r. p (j ∷ r))) (λ j. count_lists t k n (λ r. q (j ∷ r))) (λ j m. count_at_most t k n (λ r. p (j ∷ r)) (λ r. q (j ∷ r)) (inner j m)) same i below in
    count_equal t k n (λ r. p (i ∷ r)) (λ r. q (i ∷ r)) (inner i below) as_many s (record { count = omega (arith, h.count); small = All-tail (λ j. j < k) i s h.small }) e
