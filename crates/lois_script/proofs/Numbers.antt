-- Tokens by themselves, and the numbers among them.
use Rattle.std.proofs.Common.{◌≡◌, ℕ, ◌<◌, ◌≤◌, ◌^◌, true, not, ◌||◌, ◌==◌, List, [], ◌∷◌, length, get_or, arith}
use Rattle.std.specs.Prelude.{IsTrue, nat_le}
use Rattle.std.specs.List.{list_all}
use Rattle.std.specs.Char.{is_ascii_digit}
use Rattle.std.specs.Fmt as text
use Rattle.std.proofs.Common.{rules}
use Rattle.std.proofs.lemmas.Bool.{and_parts, leb-true}
use Rattle.std.proofs.lemmas.Bool.Decides.{nat_tests}
use Rattle.std.proofs.lemmas.Str.Parse.{IsNumeralModel, numerals_by_fold, digits_value_short}
use Rattle.std.proofs.lemmas.Fmt.{decimal-digits_value}
use Rattle.lois_base.proofs.NumberTests.{zero_alone}
use Rattle.lois_lexer.specs.declared.TokenKind.{TokenKind}
use Rattle.lois_lexer.specs.declared.TokenKind.TheVariants.{Number}
use Rattle.lois_lexer.specs.Forms.{HasForm, is_within_limits}
use Rattle.lois_script.specs.Grammar.{decimal, decimal_behind}

-- the bytes are a token of the kind, within the limits
pub record IsToken (kind : TokenKind) (bytes : List ℕ) : Type 0 where
  pub form : HasForm kind bytes
  pub limits : IsTrue (is_within_limits kind bytes)

abbrev are_digits : List ℕ → Type 0
are_digits ds = IsTrue (list_all is_ascii_digit ds)

own : IsNumeralModel are_digits decimal
own = numerals_by_fold _ (search rules) decimal_behind (search rules)

digits_of_token : (ds : List ℕ) → HasForm Number ds → are_digits ds
digits_of_token [] h = absurd h
digits_of_token (d ∷ ds) h = h

some_digit : (ds : List ℕ) → HasForm Number ds → 0 < length ds
some_digit [] h = absurd h
some_digit (d ∷ ds) h = omega arith

short_number : (ds : List ℕ) → IsTrue (is_within_limits Number ds) → (length ds ≤ 9) × (get_or ds 0 0 ≡ 48 → length ds ≡ 1)
short_number ds h =
    let parts = and_parts (nat_le (length ds) 9) (length ds == 1 || not (get_or ds 0 0 == 48)) h in
    (leb-true (length ds) 9 parts.0, zero_alone (length ds) (get_or ds 0 0) parts.1)

-- a number is written with the digits that it was read from
pub number_again : (ds : List ℕ) → IsToken Number ds → text.decimal (decimal ds) ≡ ds
number_again ds t =
    let digits = digits_of_token ds t.form in
    let limits = short_number ds t.limits in
    let small : decimal ds < 10 ^ 9 = digits_value_short own ds 9 digits limits.0 in
    decimal-digits_value own ds digits (some_digit ds t.form) limits.1 (omega arith)
