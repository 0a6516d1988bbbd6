-- The names of numbers have the form of names.
use Rattle.std.proofs.Common.{◌≡◌, ℕ, ◌+◌, ◌%◌, ◌<◌, ◌≤◌, ◌^◌, true, [], ◌∷◌, length, refl, ◌∙◌, arith}
use Rattle.std.proofs.lemmas.Bool.{and_from}
use Rattle.std.proofs.lemmas.Bool.Decides.{nat_tests}
use Rattle.std.proofs.lemmas.Fmt.{decimal_by_steps, length-decimal-le}
use Rattle.std.proofs.lemmas.List.Folds.{list_all-append}
use Rattle.std.specs.Fmt.{decimal}
use Rattle.std.specs.List.{list_all}
use Rattle.lois_base.specs.Names.{IsName, is_name_byte}
use Rattle.lois_picture.specs.GraphText.{number_name}

digit_is : (n : ℕ) → n < 10 → is_name_byte (48 + n) ≡ true
digit_is n h = grind (arith, nat_tests)

digits_are : (n : ℕ) → n < 2 ^ 64 → list_all is_name_byte (decimal n) ≡ true
digits_are = decimal_by_steps (λ n ds. list_all is_name_byte ds ≡ true) (λ n h. and_from (is_name_byte (48 + n)) true (digit_is n h) refl)
    (λ n ds h so_far. list_all-append is_name_byte ds ((48 + n % 10) ∷ []) ∙ and_from (list_all is_name_byte ds) _ so_far (and_from (is_name_byte (48 + n % 10)) true (digit_is (n % 10) (omega arith)) refl))

pub is_number_name : (n : ℕ) → n < 2 ^ 64 → IsName (number_name n)
is_number_name n h =
    let few : length (decimal n) ≤ 20 = length-decimal-le 20 n (omega arith) (omega arith) h in
    record {
      short = omega arith;
      letter = refl;
      bytes = digits_are n h;
    }
