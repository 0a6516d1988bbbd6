-- Decimal digits, one after the other.
use Rattle.std.proofs.Common.{◌≡◌, ℕ, zero, suc, ◌+◌, ◌-◌, ◌*◌, ◌<◌, ◌≤◌, true, false, List, length, drop, get_or, refl, sym, ap, ◌∙◌, arith, add-one, drop-cons, drop_of_length-le}
use Rattle.std.specs.List.{list_all}
use Rattle.std.specs.Char.{is_ascii_digit}
use Rattle.std.proofs.lemmas.Bool.Decides.{nat_tests}
use Rattle.std.proofs.lemmas.List.Folds.{list_all_at}
use Rattle.lois_base.proofs.Booleans.{true_if_not_false}
use Rattle.lois_script.specs.Grammar.{decimal_behind}

-- the numbers with i digits are below it
abbrev pub power : ℕ → ℕ
power zero = 1
power (suc i) = 10 * power i

pub power_next : (i : ℕ) → power (i + 1) ≡ 10 * power i
power_next i = rw add-one refl

positive : (i : ℕ) → 1 ≤ power i
positive zero = omega arith
positive (suc i) = let h = positive i in omega arith

grows : (i j : ℕ) → i ≤ j → power i ≤ power j
grows zero j h = positive j
grows (suc i) zero h = absurd (omega arith)
grows (suc i) (suc j) h = let smaller : i ≤ j = omega arith in let g = grows i j smaller in omega arith

pub power_small : (i : ℕ) → i ≤ 8 → power i ≤ 100000000
power_small i h = grows i 8 h

digit_between : (b : ℕ) → is_ascii_digit b ≡ true → (48 ≤ b) × (b ≤ 57)
digit_between b h = (grind (arith, nat_tests), grind (arith, nat_tests))

pub is_digit : (ds : List ℕ) (i : ℕ) → list_all is_ascii_digit ds ≡ true → i < length ds → (48 ≤ get_or ds i 0) × (get_or ds i 0 ≤ 57)
is_digit ds i h bound =
    digit_between (get_or ds i 0) (true_if_not_false (is_ascii_digit (get_or ds i 0)) (λ e. let no : true ≡ false = sym h ∙ list_all_at is_ascii_digit ds i 0 bound e in absurd (cc)))

pub one_digit : (v i : ℕ) (ds : List ℕ) → i < length ds → decimal_behind v (drop i ds) ≡ decimal_behind (10 * v + (get_or ds i 0 - 48)) (drop (i + 1) ds)
one_digit v i ds h = rw add-one (ap (decimal_behind v) (drop-cons ds i 0 h))

pub no_digits : (v i : ℕ) (ds : List ℕ) → length ds ≤ i → decimal_behind v (drop i ds) ≡ v
no_digits v i ds h = ap (decimal_behind v) (drop_of_length-le ds h)
