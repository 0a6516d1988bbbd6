-- Rows of levels, as bits of words.
use Rattle.std.proofs.Common.{◌≡◌, ◌≢◌, ℕ, zero, suc, ◌-◌, ◌*◌, ◌/◌, ◌%◌, ◌^◌, ◌<◌, ◌≤◌, max, Bool, true, false, ◌||◌, ◌==◌, ◌⊎◌, inl, inr, List, [], ◌∷◌, ◌++◌, length, get_or, take, replicate, w64, eqb, refl, sym, ap, ◌∙◌, arith}
use Rattle.std.proofs.Math.ListN.{get_or-eq_default}
use Rattle.std.proofs.lemmas.Bool.{cases_order}
use Rattle.std.proofs.lemmas.Bool.Decides.{eqb_tells}
use Rattle.std.proofs.lemmas.Grind.{common_steps}
use Rattle.std.proofs.lemmas.List.{take_all}
use Rattle.std.proofs.lemmas.Nat.{or_comm}
use Rattle.std.proofs.lemmas.Nat.Bits.{bit_at_or, bit_at-zero, bit_at-lt, bit_at_set_same, bit_at_set_other, shr_and_one}
use Rattle.std.specs.Prelude.{bit_and, bit_or}
use Rattle.std.specs.Int.{bit_at}
use Rattle.lois_constraint.specs.Order.{Row, reaches, are_at_most}

module _ {X : Type 0} (xs : List X) (x d : X) (i : ℕ) where
  pub beyond : length xs < i → get_or (xs ++ x ∷ []) i d ≡ d
  beyond more =
      let past : length (xs ++ x ∷ []) ≤ i = grind (arith, common_steps) in get_or-eq_default (xs ++ x ∷ []) d past

pub bit_read : (r : Row) (b : ℕ) → (bit_and (get_or r (b / 64) 0 / 2 ^ (b % 64)) 1 == 1) ≡ reaches r b
unfolding reaches
bit_read r b = ap (λ n. eqb n 1) (shr_and_one (get_or r (b / 64) 0) (b % 64))

word_is : (r : Row) (b w : ℕ) → get_or r (b / 64) 0 ≡ w → reaches r b ≡ (bit_at w (b % 64) == 1)
unfolding reaches
word_is r b w e = ap (λ x. bit_at x (b % 64) == 1) e

pub no_word : (r : Row) (b : ℕ) → get_or r (b / 64) 0 ≡ 0 → reaches r b ≡ false
no_word r b e = word_is r b 0 e ∙ ap (λ n. eqb n 1) (bit_at-zero (b % 64))

same_word : (r s : Row) (b : ℕ) → get_or r (b / 64) 0 ≡ get_or s (b / 64) 0 → reaches r b ≡ reaches s b
unfolding reaches
same_word r s b e = ap (λ x. bit_at x (b % 64) == 1) e

pub reaches_nothing : (b : ℕ) → reaches [] b ≡ false
reaches_nothing b = no_word [] b refl

pub or_nothing : (p : Bool) → p ≡ (p || false)
or_nothing true = refl
or_nothing false = refl

-- ---- beyond the rows
pub no_row : (rows : List Row) (level b : ℕ) → length rows ≤ level → are_at_most rows level b ≡ false
no_row rows level b l =
    let none : get_or rows level [] ≡ [] = get_or-eq_default rows [] l in rw none (reaches_nothing b)

-- ---- the first word, and those beyond it
pub beyond_first : (x : ℕ) (xs : List ℕ) (i : ℕ) → i ≢ 0 → get_or (x ∷ xs) i 0 ≡ get_or xs (i - 1) 0
beyond_first x xs zero other = absurd (other refl)
beyond_first x xs (suc i) other = ap (λ n. get_or xs n 0) (omega arith)

first_word : (first : ℕ) (more : List ℕ) (b : ℕ) → b < 64 → get_or (first ∷ more) (b / 64) 0 ≡ first
first_word first more b l = let at : b / 64 ≡ 0 = omega arith in ap (λ i. get_or (first ∷ more) i 0) at

pub first_bit : (first : ℕ) (more : List ℕ) (b : ℕ) → b < 64 → (bit_at first b == 1) ≡ reaches (first ∷ more) b
first_bit first more b l =
    let rest : b ≡ b % 64 = omega arith in
    ap (λ i. bit_at first i == 1) rest ∙ sym (word_is (first ∷ more) b first (first_word first more b l))

pub first_read : (first : ℕ) (more : List ℕ) (b : ℕ) → b < 64 → (bit_and (first / 2 ^ b) 1 == 1) ≡ reaches (first ∷ more) b
first_read first more b l = ap (λ n. eqb n 1) (shr_and_one first b) ∙ first_bit first more b l

one_word : (w i : ℕ) → get_or (w ∷ []) i w ≡ w
one_word w zero = refl
one_word w (suc i) = refl

pub reaches_no_bit : (b : ℕ) → reaches (0 ∷ []) b ≡ false
reaches_no_bit b = no_word (0 ∷ []) b (one_word 0 (b / 64))

-- ---- zeros at the end
each_alike : (w k i : ℕ) → get_or (replicate k w) i w ≡ w
each_alike w zero i = refl
each_alike w (suc k) zero = refl
each_alike w (suc k) (suc i) = each_alike w k i

zeros_after : (xs : List ℕ) (k i : ℕ) → get_or (xs ++ replicate k 0) i 0 ≡ get_or xs i 0
zeros_after [] k i = each_alike 0 k i
zeros_after (x ∷ xs) k zero = refl
zeros_after (x ∷ xs) k (suc i) = zeros_after xs k i

pub zeros_more : (xs : List ℕ) (n k i : ℕ) → length xs ≤ n → get_or (take n xs ++ replicate k 0) i 0 ≡ get_or xs i 0
zeros_more xs n k i l = rw (take_all n xs l) (zeros_after xs k i)

-- ---- one level more
-- s: the row r with the bit of level n
module _ (r s : Row) (n : ℕ) (here : get_or s (n / 64) 0 ≡ bit_or (get_or r (n / 64) 0) (1 * 2 ^ (n % 64) % 2 ^ 64)) (others : (j : ℕ) → j ≢ n / 64 → get_or s j 0 ≡ get_or r j 0) where
  bit_put : (b : ℕ) → reaches s b ≡ (n == b || reaches r b)
  bit_put b = go (cases_order (b / 64) (n / 64)) (eqb_tells n b)
    where
      old : ℕ
      old = get_or r (b / 64) 0

      bit : ℕ
      bit = 1 * 2 ^ (n % 64) % 2 ^ 64

      inside : n % 64 < 64
      inside = omega arith

      at_word : b / 64 ≡ n / 64 → reaches s b ≡ (bit_at (bit_or old bit) (b % 64) == 1)
      at_word at =
          word_is s b (bit_or old bit) (ap (λ i. get_or s i 0) at ∙ (here ∙ ap (λ i. bit_or (get_or r i 0) bit) (sym at)))

      elsewhere : b / 64 ≢ n / 64 → eqb n b ≡ false → reaches s b ≡ (n == b || reaches r b)
      elsewhere other apart = rw apart (same_word s r b (others (b / 64) other))

      go : (b / 64 ≡ n / 64) ⊎ ((b / 64 < n / 64) ⊎ (n / 64 < b / 64)) → ((eqb n b ≡ true) × (n ≡ b)) ⊎ ((eqb n b ≡ false) × (n ≢ b)) → reaches s b ≡ (n == b || reaches r b)
      go (inl at) (inl t) =
          let bit_index : b % 64 ≡ n % 64 = ap (λ k. k % 64) (sym t.1) in
          rw t.0 (at_word at ∙ (ap (λ i. bit_at (bit_or old bit) i == 1) bit_index ∙ ap (λ k. eqb k 1) (bit_at_set_same w64 old (n % 64) inside)))
      go (inl at) (inr t) =
          let other : b % 64 ≢ n % 64 = λ e. t.1 (omega (arith, e, at)) in
          rw t.0 (at_word at ∙ (ap (λ k. eqb k 1) (bit_at_set_other w64 old (n % 64) inside (b % 64) other) ∙ sym (word_is r b old refl)))
      go (inr (inl less)) (inl t) = let same = t.1 in absurd (omega arith)
      go (inr (inl less)) (inr t) = elsewhere (λ e. omega (arith, e)) t.0
      go (inr (inr more)) (inl t) = let same = t.1 in absurd (omega arith)
      go (inr (inr more)) (inr t) = elsewhere (λ e. omega (arith, e)) t.0

pub put_first : (first : ℕ) (more : List ℕ) (n b : ℕ) → n < 64 → reaches (bit_or first (1 * 2 ^ (n % 64) % 2 ^ 64) ∷ more) b ≡ (n == b || reaches (first ∷ more) b)
put_first first more n b l = bit_put (first ∷ more) (bit_or first bit ∷ more) n here others b
  where
    bit : ℕ
    bit = 1 * 2 ^ (n % 64) % 2 ^ 64

    here : get_or (bit_or first bit ∷ more) (n / 64) 0 ≡ bit_or (get_or (first ∷ more) (n / 64) 0) bit
    here = rw (first_word first more n l) (first_word (bit_or first bit) more n l)

    others : (j : ℕ) → j ≢ n / 64 → get_or (bit_or first bit ∷ more) j 0 ≡ get_or (first ∷ more) j 0
    others zero other = absurd (other (omega arith))
    others (suc j) other = refl

pub put_beyond : (first : ℕ) (more new : List ℕ) (n b : ℕ) → 64 ≤ n → get_or new (n / 64 - 1) 0 ≡ bit_or (get_or more (n / 64 - 1) 0) (1 * 2 ^ (n % 64) % 2 ^ 64) → ((i : ℕ) → i ≢ n / 64 - 1 → get_or new i 0 ≡ get_or more i 0) → reaches (first ∷ new) b ≡ (n == b || reaches (first ∷ more) b)
put_beyond first more new n b l at rest = bit_put (first ∷ more) (first ∷ new) n here others b
  where
    beyond_it : n / 64 ≢ 0
    beyond_it = omega arith

    here : get_or (first ∷ new) (n / 64) 0 ≡ bit_or (get_or (first ∷ more) (n / 64) 0) (1 * 2 ^ (n % 64) % 2 ^ 64)
    here = rw (beyond_first first new (n / 64) beyond_it, beyond_first first more (n / 64) beyond_it) at

    others : (j : ℕ) → j ≢ n / 64 → get_or (first ∷ new) j 0 ≡ get_or (first ∷ more) j 0
    others zero other = refl
    others (suc j) other = rest j (λ e. other (omega (arith, e)))

-- ---- the levels of two rows
pub one_or : (m n : ℕ) → m < 2 → n < 2 → (max m n == 1) ≡ ((m == 1) || (n == 1))
one_or zero zero k l = refl
one_or zero (suc zero) k l = refl
one_or (suc zero) zero k l = refl
one_or (suc zero) (suc zero) k l = refl
one_or (suc (suc m)) n k l = absurd (omega arith)
one_or m (suc (suc n)) k l = absurd (omega arith)

word_joined : (r s row : Row) (b : ℕ) → get_or row (b / 64) 0 ≡ bit_or (get_or r (b / 64) 0) (get_or s (b / 64) 0) → reaches row b ≡ (reaches r b || reaches s b)
unfolding reaches
word_joined r s row b e =
    let x : ℕ = get_or r (b / 64) 0 in
    let y : ℕ = get_or s (b / 64) 0 in
    ap (λ w. bit_at w (b % 64) == 1) e ∙ (ap (λ n. eqb n 1) (bit_at_or x y (b % 64)) ∙ one_or (bit_at x (b % 64)) (bit_at y (b % 64)) (bit_at-lt x (b % 64)) (bit_at-lt y (b % 64)))

pub rows_joined : (f g : ℕ) (m n o : List ℕ) (b : ℕ) → ((i : ℕ) → get_or o i 0 ≡ bit_or (get_or m i 0) (get_or n i 0)) → reaches (bit_or f g ∷ o) b ≡ (reaches (f ∷ m) b || reaches (g ∷ n) b)
rows_joined f g m n o b rest = word_joined (f ∷ m) (g ∷ n) (bit_or f g ∷ o) b (each (b / 64))
  where
    each : (i : ℕ) → get_or (bit_or f g ∷ o) i 0 ≡ bit_or (get_or (f ∷ m) i 0) (get_or (g ∷ n) i 0)
    each zero = refl
    each (suc i) = rest i

pub first_joined : (f g : ℕ) (m n : List ℕ) (b : ℕ) → length n ≡ 0 → reaches (bit_or f g ∷ m) b ≡ (reaches (f ∷ m) b || reaches (g ∷ n) b)
first_joined f g m n b l = rows_joined f g m n m b (λ i. rw (lacks i) (or_comm 0 (get_or m i 0)))
  where
    lacks : (i : ℕ) → get_or n i 0 ≡ 0
    lacks i = get_or-eq_default n 0 (omega arith)

-- r: words, s: others, of which there aren't more, row: r with the first n of s
module _ (r s row : List ℕ) (n : ℕ) where
  pub all_joined : length s ≡ n → ((j : ℕ) → j < n → get_or row j 0 ≡ bit_or (get_or r j 0) (get_or s j 0)) → ((j : ℕ) → n ≤ j → get_or row j 0 ≡ get_or r j 0) → (j : ℕ) → get_or row j 0 ≡ bit_or (get_or r j 0) (get_or s j 0)
  all_joined l below above j = go (cases_order j n)
    where
      past : n ≤ j → get_or row j 0 ≡ bit_or (get_or r j 0) (get_or s j 0)
      past far =
          let lacks : get_or s j 0 ≡ 0 = get_or-eq_default s 0 (omega arith) in
          rw lacks (above j far ∙ or_comm 0 (get_or r j 0))

      go : (j ≡ n) ⊎ ((j < n) ⊎ (n < j)) → get_or row j 0 ≡ bit_or (get_or r j 0) (get_or s j 0)
      go (inl at) = past (omega arith)
      go (inr (inl less)) = below j less
      go (inr (inr more)) = past (omega arith)
