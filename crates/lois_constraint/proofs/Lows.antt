-- The order of the levels below eight, as bits of one word.
use Rattle.std.proofs.Common.{◌≡◌, ◌≢◌, ℕ, zero, suc, ◌+◌, ◌-◌, ◌*◌, ◌%◌, ◌^◌, ◌<◌, ◌≤◌, min, Bool, true, false, ◌||◌, ◌&&◌, ◌==◌, ◌⊎◌, inl, inr, List, [], ◌∷◌, length, get_or, eqb, refl, sym, ap, ◌∙◌, add-zero, pow_pos, shl_lt, shl_exact, arith}
use Rattle.std.proofs.Math.ListN.{get_or-eq_default}
use Rattle.std.proofs.lemmas.Bool.{cases_order, and_parts}
use Rattle.std.proofs.lemmas.Nat.{and_mask, mod_below}
use Rattle.std.proofs.lemmas.Nat.Bits.{bit_at_and, bit_at_or, bit_at-zero, bit_at-lt, bit_at_ones, bit_at_above, bit_at_cat_low, bit_at_cat_high}
use Rattle.std.specs.Prelude.{bit_and, bit_or}
use Rattle.std.specs.Int.{bit_at}
use Rattle.lois_constraint.specs.Order.{Row, reaches, at_most}
use Rattle.lois_constraint.proofs.Words.{one_or, or_nothing, reaches_nothing, first_bit}

-- ---- a test of each number below a bound, by computing
abbrev pub holds_below : (ℕ → Bool) → ℕ → Bool
holds_below p zero = true
holds_below p (suc n) = p n && holds_below p n

pub each_below : (p : ℕ → Bool) (n k : ℕ) → holds_below p n ≡ true → k < n → p k ≡ true
each_below p zero k h l = absurd (omega arith)
each_below p (suc n) k h l = go (cases_order k n) (λ less. each_below p n k (and_parts (p n) (holds_below p n) h).1 less)
  where
    go : (k ≡ n) ⊎ ((k < n) ⊎ (n < k)) → (k < n → p k ≡ true) → p k ≡ true
    go (inl at) before = rw at (and_parts (p n) (holds_below p n) h).0
    go (inr (inl less)) before = before less
    go (inr (inr more)) before = absurd (omega arith)

abbrev is_same : Bool → Bool → Bool
is_same true q = q
is_same false true = false
is_same false false = true

same_bools : (p q : Bool) → is_same p q ≡ true → p ≡ q
same_bools true true e = refl
same_bools true false e = absurd (cc)
same_bools false true e = absurd (cc)
same_bools false false e = refl

abbrev each_itself : ℕ
each_itself = 0x8040201008040201

abbrev tells_itself : ℕ → ℕ → Bool
tells_itself a b = is_same (bit_at each_itself (8 * a + b) == 1) (a == b)

pub diagonal : (a b : ℕ) → a < 8 → b < 8 → (bit_at 0x8040201008040201 (8 * a + b) == 1) ≡ (a == b)
diagonal a b l m =
    let whole : holds_below (λ x. holds_below (tells_itself x) 8) 8 ≡ true = refl in
    let row : holds_below (tells_itself a) 8 ≡ true = each_below (λ x. holds_below (tells_itself x) 8) 8 a whole l in
    same_bools (bit_at each_itself (8 * a + b) == 1) (a == b) (each_below (tells_itself a) 8 b row m)

-- ---- the bits of one row
pub low_bound : (n : ℕ) → bit_and n 255 < 2 ^ 8
low_bound n = rw (and_mask n 8) (mod_below n (2 ^ 8) (omega arith))

low_one : (m n : ℕ) → m < 2 → n ≡ 1 → (min m n == 1) ≡ (m == 1)
low_one m n l e = rw e (ap (λ k. eqb k 1) (omega arith))

pub low_bit : (first : ℕ) (more : List ℕ) (b : ℕ) → b < 8 → (bit_at (bit_and first 255) b == 1) ≡ reaches (first ∷ more) b
low_bit first more b l =
    let inside : b < 64 = omega arith in
    ap (λ n. eqb n 1) (bit_at_and first 255 b) ∙ (low_one (bit_at first b) (bit_at 255 b) (bit_at-lt first b) (bit_at_ones 8 b l) ∙ first_bit first more b inside)

-- ---- one row more
-- a word of eight bits, moved up to the place of level n
module _ (low n : ℕ) (small : low < 2 ^ 8) (inside : n < 8) where
  abbrev moved : ℕ
  moved = low * 2 ^ (8 * n) % 2 ^ 64

  below_end : low * 2 ^ (8 * n) < 2 ^ (8 + 8 * n)
  below_end = shl_lt 8 (8 * n) small

  moved_is : moved ≡ low * 2 ^ (8 * n)
  moved_is = shl_exact 8 (8 * n) 64 small (omega arith)

  moved_here : (b : ℕ) → b < 8 → bit_at moved (8 * n + b) ≡ bit_at low b
  moved_here b m =
      let bit_index : 8 * n + b - 8 * n ≡ b = omega arith in
      ap (λ x. bit_at x (8 * n + b)) (moved_is ∙ sym (add-zero (low * 2 ^ (8 * n)))) ∙ (bit_at_cat_high low (8 * n) 0 (8 * n + b) (pow_pos (8 * n)) (omega arith) ∙ ap (bit_at low) bit_index)

  moved_else : (a b : ℕ) → a ≢ n → b < 8 → bit_at moved (8 * a + b) ≡ 0
  moved_else a b other m = go (cases_order a n)
    where
      go : (a ≡ n) ⊎ ((a < n) ⊎ (n < a)) → bit_at moved (8 * a + b) ≡ 0
      go (inl at) = absurd (other at)
      go (inr (inl less)) =
          ap (λ x. bit_at x (8 * a + b)) (moved_is ∙ sym (add-zero (low * 2 ^ (8 * n)))) ∙ (bit_at_cat_low low (8 * n) 0 (8 * a + b) (omega arith) ∙ bit_at-zero (8 * a + b))
      go (inr (inr more)) =
          ap (λ x. bit_at x (8 * a + b)) moved_is ∙ bit_at_above (low * 2 ^ (8 * n)) (8 + 8 * n) (8 * a + b) below_end (omega arith)

  -- order: a word that gets the row of level n
  module _ (order : ℕ) where
    abbrev put_in : ℕ
    put_in = bit_or order moved

    has : (i : ℕ) → (bit_at put_in i == 1) ≡ ((bit_at order i == 1) || (bit_at moved i == 1))
    has i =
        ap (λ k. eqb k 1) (bit_at_or order moved i) ∙ one_or (bit_at order i) (bit_at moved i) (bit_at-lt order i) (bit_at-lt moved i)

    put_here : (b : ℕ) → b < 8 → (bit_at (bit_or order (low * 2 ^ (8 * n) % 2 ^ 64)) (8 * n + b) == 1) ≡ ((bit_at order (8 * n + b) == 1) || (bit_at low b == 1))
    put_here b m = has (8 * n + b) ∙ ap (λ k. (bit_at order (8 * n + b) == 1) || eqb k 1) (moved_here b m)

    put_else : (a b : ℕ) → a ≢ n → b < 8 → (bit_at (bit_or order (low * 2 ^ (8 * n) % 2 ^ 64)) (8 * a + b) == 1) ≡ (bit_at order (8 * a + b) == 1)
    put_else a b other m =
        has (8 * a + b) ∙ (ap (λ k. (bit_at order (8 * a + b) == 1) || eqb k 1) (moved_else a b other m) ∙ sym (or_nothing (bit_at order (8 * a + b) == 1)))

-- ---- the rows from the first on
-- order: a word with the rows below n
module _ (rows : List Row) (order n : ℕ) where
  abbrev Below : ℕ → ℕ → Type 0
  Below word m = (a b : ℕ) → a < m → b < 8 → (bit_at word (8 * a + b) == 1) ≡ at_most rows a b

  abbrev Above : ℕ → ℕ → Type 0
  Above word m = (a b : ℕ) → m ≤ a → a < 8 → b < 8 → (bit_at word (8 * a + b) == 1) ≡ (a == b)

  -- low: the low levels of row n
  pub row_below : (low : ℕ) → low < 2 ^ 8 → n < 8 → ((b : ℕ) → b < 8 → (bit_at low b == 1) ≡ reaches (get_or rows n []) b) → Below order n → Above order n → Below (bit_or order (low * 2 ^ (8 * n) % 2 ^ 64)) (n + 1)
  row_below low small inside is below above a b l m = go (cases_order a n)
    where
      word : ℕ
      word = bit_or order (low * 2 ^ (8 * n) % 2 ^ 64)

      go : (a ≡ n) ⊎ ((a < n) ⊎ (n < a)) → (bit_at word (8 * a + b) == 1) ≡ at_most rows a b
      go (inl at) =
          let here : (bit_at word (8 * n + b) == 1) ≡ ((n == b) || reaches (get_or rows n []) b) = put_here low n small inside order b m ∙ (ap (λ p. p || (bit_at low b == 1)) (above n b (omega arith) inside m) ∙ ap (λ p. (n == b) || p) (is b m)) in
          rw at here
      go (inr (inl less)) = put_else low n small inside order a b (λ e. omega (arith, e)) m ∙ below a b less m
      go (inr (inr more)) = absurd (omega arith)

  pub row_above : (low : ℕ) → low < 2 ^ 8 → n < 8 → Above order n → Above (bit_or order (low * 2 ^ (8 * n) % 2 ^ 64)) (n + 1)
  row_above low small inside above a b l k m =
      put_else low n small inside order a b (λ e. omega (arith, e)) m ∙ above a b (omega arith) k m

  pub all_low : min (length rows) 8 ≤ n → Below order n → Above order n → (a b : ℕ) → a < 8 → b < 8 → (bit_at order (8 * a + b) == 1) ≡ at_most rows a b
  all_low whole below above a b l m = go (cases_order a n)
    where
      past : n ≤ a → (bit_at order (8 * a + b) == 1) ≡ at_most rows a b
      past far =
          let none : get_or rows a [] ≡ [] = get_or-eq_default rows [] (omega arith) in
          rw (none, reaches_nothing b) (above a b far l m ∙ or_nothing (a == b))

      go : (a ≡ n) ⊎ ((a < n) ⊎ (n < a)) → (bit_at order (8 * a + b) == 1) ≡ at_most rows a b
      go (inl at) = past (omega arith)
      go (inr (inl less)) = below a b less m
      go (inr (inr more)) = past (omega arith)
