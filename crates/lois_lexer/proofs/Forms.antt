-- The first byte of a token tells its kind, and no token has a blank in it.
use Rattle.std.proofs.Common.{◌≡◌, ℕ, ◌<◌, ◌≤◌, Bool, true, false, cond, not, ◌&&◌, ◌||◌, ◌==◌, List, [], ◌∷◌, length, get_or, sym, refl, ap, subst, ◌∙◌, ⊎_elim, ◌⊎◌, lit<, arith}
use Rattle.std.specs.Prelude.{Contains, codes, nat_le}
use Rattle.std.specs.Str.{bytes_eq}
use Rattle.std.specs.List.{AllPass, list_all, list_any}
use Rattle.std.specs.Char.{is_ascii_alphabetic, is_ascii_digit}
use Rattle.std.proofs.lemmas.Bool.{and_parts, and_from, cond-true, cond-false, eqb-true, ne_eqb, leb-true, false≢true}
use Rattle.std.proofs.lemmas.Bool.Decides.{nat_tests}
use Rattle.std.proofs.lemmas.List.Sums.{AllPass-from_list_all}
use Rattle.std.proofs.lemmas.Map.Views.{Contains-from_any}
use Rattle.std.proofs.lemmas.Slice.Eq.{bytes_eq-Decides}
use Rattle.lois_lexer.specs.declared.TokenKind.{TokenKind}
use Rattle.lois_lexer.specs.declared.TokenKind.TheVariants.{Name, Word, Tag, Number, Symbol}
use Rattle.lois_lexer.specs.Bytes.{is_word_byte}
use Rattle.lois_lexer.specs.Words.{symbols}
use Rattle.lois_lexer.specs.Forms.{is_word_form, HasForm}

-- 0 for a letter, 1 for a digit, 2 for the quote, and 3 for any other byte
abbrev pub class_of : ℕ → ℕ
class_of b = cond (is_ascii_alphabetic b) 0 (cond (is_ascii_digit b) 1 (cond (b == 39) 2 3))

-- the class that a token of the kind begins with
abbrev pub first_class : TokenKind → ℕ
first_class Name = 0
first_class Word = 0
first_class Number = 1
first_class Tag = 2
first_class Symbol = 3

-- what each symbol passes, a symbol passes
pub passed_by_symbol : (p : List ℕ → Bool) → list_all p symbols ≡ true → (bytes : List ℕ) → Contains symbols bytes → p bytes ≡ true
passed_by_symbol p each bytes h = let P : List ℕ → Type 0 = λ xs. p xs ≡ true in subst P h.2 (AllPass-from_list_all p symbols each h.0 bytes h.1)

pub digit_class : (b : ℕ) → is_ascii_digit b ≡ true → class_of b ≡ 1
digit_class b h = grind (arith, nat_tests)

pub letter_is_word_byte : (b : ℕ) → is_ascii_alphabetic b ≡ true → is_word_byte b ≡ true
letter_is_word_byte b h = grind (arith, nat_tests)

-- a word's form, taken apart
pub letter_first : (b : ℕ) (bs : List ℕ) → is_word_form (b ∷ bs) ≡ true → is_ascii_alphabetic b ≡ true
letter_first b bs h = (and_parts (is_ascii_alphabetic b) (list_all is_word_byte bs) h).0

pub word_bytes_after : (b : ℕ) (bs : List ℕ) → is_word_form (b ∷ bs) ≡ true → list_all is_word_byte bs ≡ true
word_bytes_after b bs h = (and_parts (is_ascii_alphabetic b) (list_all is_word_byte bs) h).1

pub word_bytes : (bytes : List ℕ) → is_word_form bytes ≡ true → list_all is_word_byte bytes ≡ true
word_bytes [] h = refl
word_bytes (b ∷ bs) h = and_from (is_word_byte b) (list_all is_word_byte bs) (letter_is_word_byte b (letter_first b bs h)) (word_bytes_after b bs h)

pub letter_class : (b : ℕ) → is_ascii_alphabetic b ≡ true → class_of b ≡ 0
letter_class b h = cond-true (is_ascii_alphabetic b) 0 (cond (is_ascii_digit b) 1 (cond (b == 39) 2 3)) h

pub other_class : (b : ℕ) → is_ascii_alphabetic b ≡ false → is_ascii_digit b ≡ false → (b ≡ 39 → ⊥) → class_of b ≡ 3
other_class b no_letter no_digit no_quote =
    cond-false (is_ascii_alphabetic b) 0 (cond (is_ascii_digit b) 1 (cond (b == 39) 2 3)) no_letter ∙
    cond-false (is_ascii_digit b) 1 (cond (b == 39) 2 3) no_digit ∙ cond-false (b == 39) 2 3 (ne_eqb b 39 no_quote)

pub class_of_first : (kind : TokenKind) (bytes : List ℕ) → HasForm kind bytes → class_of (get_or bytes 0 0) ≡ first_class kind
unfolding symbols
class_of_first Name (b ∷ bs) h = letter_class b (letter_first b bs h.0)
class_of_first Word (b ∷ bs) h = letter_class b (letter_first b bs h.0)
class_of_first Tag (b ∷ bs) h = ap class_of h.0
class_of_first Number (b ∷ bs) h = digit_class b (and_parts (is_ascii_digit b) (list_all is_ascii_digit bs) h).0
class_of_first Symbol bytes h = eqb-true _ _ (passed_by_symbol (λ xs. class_of (get_or xs 0 0) == 3) refl bytes h)
class_of_first Name [] h = absurd (false≢true h.0)
class_of_first Word [] h = absurd (false≢true h.0)
class_of_first Tag [] h = absurd h
class_of_first Number [] h = absurd h

pub form_nonempty : (kind : TokenKind) (bytes : List ℕ) → HasForm kind bytes → 0 < length bytes
unfolding symbols
form_nonempty kind (b ∷ bs) h = omega arith
form_nonempty Name [] h = absurd (false≢true h.0)
form_nonempty Word [] h = absurd (false≢true h.0)
form_nonempty Tag [] h = absurd h
form_nonempty Number [] h = absurd h
form_nonempty Symbol [] h = absurd (false≢true (passed_by_symbol (λ xs. not (length xs == 0)) refl [] h))

-- kinds of one class with the same bytes are one kind
pub one_kind : (this that : TokenKind) (bytes : List ℕ) → HasForm this bytes → HasForm that bytes → this ≡ that
one_kind Name Name bytes h k = refl
one_kind Word Word bytes h k = refl
one_kind Tag Tag bytes h k = refl
one_kind Number Number bytes h k = refl
one_kind Symbol Symbol bytes h k = refl
one_kind Name Word bytes h k = absurd (h.1 k.1)
one_kind Word Name bytes h k = absurd (k.1 h.1)
one_kind this that bytes h k = let same : first_class this ≡ first_class that = sym (class_of_first this bytes h) ∙ class_of_first that bytes k in absurd (omega arith)

-- symbols: a symbol has at most two bytes
pub symbol_only : (kind : TokenKind) (bytes : List ℕ) → class_of (get_or bytes 0 0) ≡ 3 → HasForm kind bytes → Contains symbols bytes
symbol_only Symbol bytes e h = h
symbol_only kind bytes e h = let k : first_class kind ≡ 3 = sym (class_of_first kind bytes h) ∙ e in absurd (omega arith)

pub symbol_short : (bytes : List ℕ) → Contains symbols bytes → length bytes ≤ 2
unfolding symbols
symbol_short bytes h = leb-true (length bytes) 2 (passed_by_symbol (λ xs. nat_le (length xs) 2) refl bytes h)

abbrev pub single_bytes : List ℕ
single_bytes = codes ";,()[]{}:=<"

-- a symbol of one byte, and one of two
pub single_from : (b : ℕ) → Contains symbols (b ∷ []) → list_any (λ c. c == b) single_bytes ≡ true
unfolding symbols
single_from b h = passed_by_symbol (λ xs. not (length xs == 1) || list_any (λ c. c == get_or xs 0 0) single_bytes) refl (b ∷ []) h

pub pair_from : (b c : ℕ) → Contains symbols (b ∷ c ∷ []) → ((b == 58 || b == 33) && c == 61) ≡ true
unfolding symbols
pair_from b c h = passed_by_symbol (λ xs. not (length xs == 2) || ((get_or xs 0 0 == 58 || get_or xs 0 0 == 33) && get_or xs 1 0 == 61)) refl (b ∷ c ∷ []) h

pub is_single : (b : ℕ) → list_any (λ c. c == b) single_bytes ≡ true → Contains symbols (b ∷ [])
unfolding symbols
is_single b h =
    let found : Contains single_bytes b = Contains-from_any {eq = λ x y. y == x} (λ x y e. sym (eqb-true y x e)) b single_bytes h in
    let P : ℕ → Type 0 = λ c. list_any (bytes_eq (c ∷ [])) symbols ≡ true in
    let each : AllPass (λ c. list_any (bytes_eq (c ∷ [])) symbols) single_bytes = AllPass-from_list_all (λ c. list_any (bytes_eq (c ∷ [])) symbols) single_bytes refl in
    Contains-from_any {eq = bytes_eq} (λ x y. (bytes_eq-Decides x y).0) (b ∷ []) symbols (subst P found.2 (each found.0 b found.1))

pub is_pair : (b : ℕ) → (b ≡ 58) ⊎ (b ≡ 33) → Contains symbols (b ∷ 61 ∷ [])
unfolding symbols
is_pair b first = ⊎_elim (λ e. (8, lit< tt, ap (λ a. a ∷ 61 ∷ []) (sym e))) (λ e. (11, lit< tt, ap (λ a. a ∷ 61 ∷ []) (sym e))) first
