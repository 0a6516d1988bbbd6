-- A word with one bit a row, times a row: the row wherever the bit is.
use Rattle.std.proofs.Common.{◌≡◌, ◌≢◌, ℕ, zero, suc, ◌+◌, ◌-◌, ◌*◌, ◌/◌, ◌%◌, ◌^◌, ◌<◌, min, Bool, true, false, ◌||◌, ◌&&◌, ◌==◌, ◌⊎◌, inl, inr, eqb, refl, sym, ap, ◌∙◌, arith}
use Rattle.std.proofs.Math.Nat.{add-mul, mul_right_comm}
use Rattle.std.proofs.lemmas.Bool.{cases_order}
use Rattle.std.proofs.lemmas.Bool.Decides.{eqb_tells}
use Rattle.std.proofs.lemmas.Nat.{mod_below, div-add-mod'}
use Rattle.std.proofs.lemmas.Nat.Bits.{bit_at_and, bit_at_or, bit_at-zero, bit_at-lt, bit_at_above, bit_at_cat_low, bit_at_cat_high, same_from_bits_below}
use Rattle.std.specs.Prelude.{bit_and, bit_or}
use Rattle.std.specs.Int.{bit_at}
use Rattle.lois_constraint.specs.Order.{linked}
use Rattle.lois_constraint.specs.LevelOrders.{has_bit}
use Rattle.lois_constraint.proofs.Linked.{clash}
use Rattle.lois_constraint.proofs.LowOrders.{moved_down}
use Rattle.lois_constraint.proofs.Lows.{each_below}
use Rattle.lois_constraint.proofs.Words.{one_or}

-- no bit but the first of a row
abbrev IsSparse : ℕ → Type 0
IsSparse w = (i : ℕ) → i % 8 ≢ 0 → bit_at w i ≡ 0

rest_sparse : (w : ℕ) → IsSparse w → IsSparse (w / 2 ^ 8)
rest_sparse w h i other =
    let same : (8 + i) % 8 ≡ i % 8 = omega arith in
    moved_down w 8 i ∙ h (8 + i) (λ e. other (sym same ∙ e))

low_bits : (w i : ℕ) → i < 8 → bit_at (w % 2 ^ 8) i ≡ bit_at w i
low_bits w i l =
    let parts : w / 2 ^ 8 * 2 ^ 8 + w % 2 ^ 8 ≡ w = div-add-mod' w (2 ^ 8) in
    sym (bit_at_cat_low (w / 2 ^ 8) 8 (w % 2 ^ 8) i l) ∙ ap (λ x. bit_at x i) parts

-- the first row is its first bit
first_row : (w : ℕ) → IsSparse w → w % 2 ^ 8 ≡ bit_at w 0
first_row w h = same_from_bits_below 8 (w % 2 ^ 8) c (mod_below w (2 ^ 8) (omega arith)) small each
  where
    c : ℕ
    c = bit_at w 0

    bound : c < 2
    bound = bit_at-lt w 0

    small : c < 2 ^ 8
    small = omega (arith, bound)

    first : bit_at c 0 ≡ c
    first = go c bound
      where
        go : (n : ℕ) → n < 2 → bit_at n 0 ≡ n
        go zero l = refl
        go (suc zero) l = refl
        go (suc (suc n)) l = absurd (omega arith)

    each : (i : ℕ) → i < 8 → bit_at (w % 2 ^ 8) i ≡ bit_at c i
    each zero l = low_bits w 0 l ∙ sym first
    each (suc i) l =
        let rest : suc i % 8 ≢ 0 = λ e. omega (arith, e, l) in
        low_bits w (suc i) l ∙ (h (suc i) rest ∙ sym (bit_at_above c 1 (suc i) bound (omega arith)))

one_times : (c row b : ℕ) → c < 2 → bit_at (c * row) b ≡ c * bit_at row b
one_times zero row b l = rw (zero_times row, zero_times (bit_at row b)) (bit_at-zero b)
  where
    zero_times : (n : ℕ) → 0 * n ≡ 0
    zero_times n = omega arith
one_times (suc zero) row b l = rw (once row, once (bit_at row b)) refl
  where
    once : (n : ℕ) → 1 * n ≡ n
    once n = omega arith
one_times (suc (suc c)) row b l = absurd (omega arith)

times_small : (c row : ℕ) → c < 2 → row < 2 ^ 8 → c * row < 2 ^ 8
times_small zero row l m = omega arith
times_small (suc zero) row l m = omega (arith, m)
times_small (suc (suc c)) row l m = absurd (omega arith)

module _ (row b : ℕ) (small : row < 2 ^ 8) (inside : b < 8) where
  halves : (w : ℕ) → IsSparse w → w * row ≡ w / 2 ^ 8 * row * 2 ^ 8 + bit_at w 0 * row
  halves w h =
      let parts : w / 2 ^ 8 * 2 ^ 8 + w % 2 ^ 8 ≡ w = div-add-mod' w (2 ^ 8) in
      ap (λ x. x * row) (sym parts ∙ ap (λ x. w / 2 ^ 8 * 2 ^ 8 + x) (first_row w h)) ∙ (add-mul (w / 2 ^ 8 * 2 ^ 8) (bit_at w 0) row ∙ ap (λ x. x + bit_at w 0 * row) (mul_right_comm (w / 2 ^ 8) (2 ^ 8) row))

  product : (a w : ℕ) → IsSparse w → bit_at (w * row) (8 * a + b) ≡ bit_at w (8 * a) * bit_at row b
  product zero w h =
      let at : 8 * 0 + b ≡ b = omega arith in
      let front : ℕ = w / 2 ^ 8 * row in
      let first : ℕ = bit_at w 0 * row in
      ap (bit_at (w * row)) at ∙ (ap (λ x. bit_at x b) (halves w h) ∙ (bit_at_cat_low front 8 first b inside ∙ one_times (bit_at w 0) row b (bit_at-lt w 0)))
  product (suc a) w h =
      let at : 8 * suc a + b - 8 ≡ 8 * a + b = omega arith in
      let place : 8 + 8 * a ≡ 8 * suc a = omega arith in
      let front : ℕ = w / 2 ^ 8 * row in
      let first : ℕ = bit_at w 0 * row in
      ap (λ x. bit_at x (8 * suc a + b)) (halves w h) ∙ (bit_at_cat_high front 8 first (8 * suc a + b) (times_small (bit_at w 0) row (bit_at-lt w 0) small) (omega arith) ∙ (ap (bit_at front) at ∙ (product a (w / 2 ^ 8) (rest_sparse w h) ∙ ap (λ x. x * bit_at row b) (moved_down w 8 (8 * a) ∙ ap (bit_at w) place))))

-- ---- the bits of one column
abbrev lowest : ℕ
lowest = 0x0101010101010101

abbrev is_lowest : ℕ → Bool
is_lowest i = (i % 8 == 0) || (bit_at lowest i == 0)

lowest_sparse : IsSparse lowest
lowest_sparse i other = go (cases_order i 57)
  where
    inside : i < 57 → bit_at lowest i ≡ 0
    inside l = pick (eqb_tells (i % 8) 0) (eqb_tells (bit_at lowest i) 0) (each_below is_lowest 57 i refl l)
      where
        pick : ((eqb (i % 8) 0 ≡ true) × (i % 8 ≡ 0)) ⊎ ((eqb (i % 8) 0 ≡ false) × (i % 8 ≢ 0)) → ((eqb (bit_at lowest i) 0 ≡ true) × (bit_at lowest i ≡ 0)) ⊎ ((eqb (bit_at lowest i) 0 ≡ false) × (bit_at lowest i ≢ 0)) → is_lowest i ≡ true → bit_at lowest i ≡ 0
        pick (inl p) q h = absurd (other p.1)
        pick (inr p) (inl q) h = q.1
        pick (inr p) (inr q) h =
            let no : is_lowest i ≡ false = rw (p.0, q.0) refl in clash (is_lowest i) h no

    go : (i ≡ 57) ⊎ ((i < 57) ⊎ (57 < i)) → bit_at lowest i ≡ 0
    go (inl at) = bit_at_above lowest 57 i (omega arith) (omega arith)
    go (inr (inl less)) = inside less
    go (inr (inr more)) = bit_at_above lowest 57 i (omega arith) (omega arith)

-- the first bits of the rows
lowest_first : (a : ℕ) → a < 8 → bit_at lowest (8 * a) ≡ 1
lowest_first zero l = refl
lowest_first (suc zero) l = refl
lowest_first (suc (suc zero)) l = refl
lowest_first (suc (suc (suc zero))) l = refl
lowest_first (suc (suc (suc (suc zero)))) l = refl
lowest_first (suc (suc (suc (suc (suc zero))))) l = refl
lowest_first (suc (suc (suc (suc (suc (suc zero)))))) l = refl
lowest_first (suc (suc (suc (suc (suc (suc (suc zero))))))) l = refl
lowest_first (suc (suc (suc (suc (suc (suc (suc (suc a)))))))) l = absurd (omega arith)

min_zero : (m : ℕ) → min m 0 ≡ 0
min_zero m = omega arith

min_one : (m : ℕ) → m < 2 → min m 1 ≡ m
min_one m l = omega (arith, l)

both_one : (m n : ℕ) → m < 2 → n < 2 → (m * n == 1) ≡ ((m == 1) && (n == 1))
both_one zero n k l = let none : 0 * n ≡ 0 = omega arith in rw none refl
both_one (suc zero) n k l = let same : 1 * n ≡ n = omega arith in rw same refl
both_one (suc (suc m)) n k l = absurd (omega arith)

-- the column of a level: the first bits of the rows that have it
abbrev column_of : ℕ → ℕ → ℕ
column_of order x = bit_and (order / 2 ^ x) 0x0101010101010101

column_sparse : (order x : ℕ) → IsSparse (column_of order x)
column_sparse order x i other =
    bit_at_and (order / 2 ^ x) lowest i ∙ (ap (min (bit_at (order / 2 ^ x) i)) (lowest_sparse i other) ∙ min_zero (bit_at (order / 2 ^ x) i))

column_bit : (order x a : ℕ) → a < 8 → bit_at (column_of order x) (8 * a) ≡ bit_at order (8 * a + x)
column_bit order x a l =
    let at : x + 8 * a ≡ 8 * a + x = omega arith in
    bit_at_and (order / 2 ^ x) lowest (8 * a) ∙ (ap (min (bit_at (order / 2 ^ x) (8 * a))) (lowest_first a l) ∙ (min_one (bit_at (order / 2 ^ x) (8 * a)) (bit_at-lt (order / 2 ^ x) (8 * a)) ∙ (moved_down order x (8 * a) ∙ ap (bit_at order) at)))

-- row: the levels that y is at most
pub linked_at_once : (order x y row : ℕ) → row < 2 ^ 8 → ((b : ℕ) → b < 8 → (bit_at row b == 1) ≡ has_bit order y b) → (a b : ℕ) → a < 8 → b < 8 → has_bit (bit_or order (bit_and (order / 2 ^ x) 0x0101010101010101 * row)) a b ≡ linked x y (has_bit order) a b
linked_at_once order x y row small is a b l m =
    let i : ℕ = 8 * a + b in
    let more : ℕ = column_of order x * row in
    let bits : bit_at more i ≡ bit_at order (8 * a + x) * bit_at row b = product row b small m a (column_of order x) (column_sparse order x) ∙ ap (λ n. n * bit_at row b) (column_bit order x a l) in
    ap (λ k. eqb k 1) (bit_at_or order more i) ∙ (one_or (bit_at order i) (bit_at more i) (bit_at-lt order i) (bit_at-lt more i) ∙ ap (λ p. has_bit order a b || p) (ap (λ k. eqb k 1) bits ∙ (both_one (bit_at order (8 * a + x)) (bit_at row b) (bit_at-lt order (8 * a + x)) (bit_at-lt row b) ∙ ap (λ p. has_bit order a x && p) (is b m))))
