-- Facts on numbers that several crates use.
use Rattle.std.proofs.Common.{◌≡◌, ℕ, ◌<◌, ◌≤◌, true, false, nat_lt, ◌==◌, ◌||◌, not, arith}
use Rattle.std.proofs.lemmas.Bool.Decides.{nat_tests}

-- a number is 0 or doesn't begin with the digit 0, whose byte is 48
pub zero_alone : (n d : ℕ) → (n == 1 || not (d == 48)) ≡ true → d ≡ 48 → n ≡ 1
zero_alone n d h e = grind (arith, nat_tests)

-- ---- what the tests say
pub less_true : (m n : ℕ) → m < n → nat_lt m n ≡ true
less_true m n h = grind (arith, nat_tests)

pub less_false : (m n : ℕ) → n ≤ m → nat_lt m n ≡ false
less_false m n h = grind (arith, nat_tests)
