-- Words of a letter and then letters, digits and `_` are names.
use Rattle.std.proofs.Common.{◌≡◌, ℕ, suc, ◌≤◌, Bool, true, ◌&&◌, ◌||◌, ◌==◌, List, [], ◌∷◌, length, refl, arith}
use Rattle.std.specs.Char.{is_ascii_alphabetic, is_ascii_alphanumeric}
use Rattle.std.specs.List.{list_all}
use Rattle.std.proofs.lemmas.Bool.{and_parts, and_from}
use Rattle.std.proofs.lemmas.Bool.Decides.{nat_tests}
use Rattle.lois_base.specs.Names.{IsName, is_letter, is_name_byte}

-- a letter, a digit or `_`
abbrev pub is_word_byte : ℕ → Bool
is_word_byte b = is_ascii_alphanumeric b || b == 95

pub letter_is : (b : ℕ) → is_ascii_alphabetic b ≡ true → is_letter b ≡ true
letter_is b h = grind (arith, nat_tests)

pub byte_is : (b : ℕ) → is_word_byte b ≡ true → is_name_byte b ≡ true
byte_is b h = grind (arith, nat_tests)

letter_is_byte : (b : ℕ) → is_ascii_alphabetic b ≡ true → is_name_byte b ≡ true
letter_is_byte b h = grind (arith, nat_tests)

pub bytes_are : (bs : List ℕ) → list_all is_word_byte bs ≡ true → list_all is_name_byte bs ≡ true
bytes_are [] h = refl
bytes_are (b ∷ bs) h =
    let parts : (is_word_byte b ≡ true) × (list_all is_word_byte bs ≡ true) = and_parts (is_word_byte b) (list_all is_word_byte bs) h in
    and_from (is_name_byte b) (list_all is_name_byte bs) (byte_is b parts.0) (bytes_are bs parts.1)

pub name_form : (b : ℕ) (bs : List ℕ) → (is_ascii_alphabetic b && list_all is_word_byte bs) ≡ true → suc (length bs) ≤ 64 → IsName (b ∷ bs)
name_form b bs form short =
    let parts : (is_ascii_alphabetic b ≡ true) × (list_all is_word_byte bs ≡ true) = and_parts (is_ascii_alphabetic b) (list_all is_word_byte bs) form in
    record {
      short = short;
      letter = letter_is b parts.0;
      bytes = and_from (is_name_byte b) (list_all is_name_byte bs) (letter_is_byte b parts.0) (bytes_are bs parts.1);
    }
