-- The made script as blanks and tokens.
use Rattle.std.proofs.Common.{◌≡◌, ℕ, ◌+◌, ◌%◌, ◌<◌, ◌≤◌, true, false, ◌&&◌, ◌||◌, ◌==◌, List, [], ◌∷◌, length, refl, lit<, arith, subst}
use mathlib.Core.Logic.{inr}
use Rattle.std.specs.Prelude.{Contains, codes, not}
use Rattle.std.specs.List.{list_all, list_any}
use Rattle.std.proofs.lemmas.Bool.{false≢true}
use Rattle.std.proofs.lemmas.Bool.Decides.{nat_tests}
use Rattle.std.proofs.lemmas.List.Sums.{AllPass-from_list_all}
use Rattle.lois_lexer.specs.declared.TokenKind.TheVariants.{Name, Word, Tag, Symbol}
use Rattle.lois_lexer.specs.Bytes.{is_word_byte}
use Rattle.lois_lexer.specs.Forms.{is_word_form}
use Rattle.lois_lexer.specs.Words.{reserved}
use Rattle.lois_lexer.proofs.Forms.{class_of, single_bytes, is_single, is_pair}
use Rattle.lois_make.proofs.Pieces.{Piece, blank, token, IsPieceBefore, ArePiecesBefore, ◌▸◌, word_before, tag_before, single_before, pair_before}

-- no word of the language has one byte
not_reserved : (b : ℕ) → Contains reserved (b ∷ []) → ⊥
unfolding reserved
not_reserved b h =
    let longer : list_all (λ xs. not (length xs == 1)) reserved ≡ true = refl in
    let P : List ℕ → Type 0 = λ xs. not (length xs == 1) ≡ true in
    false≢true (subst P h.2 (AllPass-from_list_all (λ xs. not (length xs == 1)) reserved longer h.0 (b ∷ []) h.1))

name_before : (b c : ℕ) (rest : List ℕ) → is_word_form (b ∷ []) ≡ true → is_word_byte c ≡ false → IsPieceBefore (c ∷ rest) (token Name (b ∷ []))
name_before b c rest is_word other = (word_before Name b [] c rest (is_word, not_reserved b) is_word other, refl)

symbol_before : (b c : ℕ) (rest : List ℕ) → class_of b ≡ 3 → list_any (λ x. x == b) single_bytes ≡ true → ((b == 58 || b == 33) && c == 61) ≡ false → IsPieceBefore (c ∷ rest) (token Symbol (b ∷ []))
symbol_before b c rest class is no_pair = (single_before b c rest class (is_single b is) no_pair, refl)

atoms_before : (c : ℕ) (rest : List ℕ) → is_word_byte c ≡ false → IsPieceBefore (c ∷ rest) (token Word (codes "atoms"))
unfolding reserved
atoms_before c rest other = (word_before Word 97 (116 ∷ 111 ∷ 109 ∷ 115 ∷ []) c rest (refl, (0, lit< tt, refl)) refl other, refl)

equality_before : (c : ℕ) (rest : List ℕ) → is_word_byte c ≡ false → IsPieceBefore (c ∷ rest) (token Word (codes "equality"))
unfolding reserved
equality_before c rest other = (word_before Word 101 (113 ∷ 117 ∷ 97 ∷ 108 ∷ 105 ∷ 116 ∷ 121 ∷ []) c rest (refl, (1, lit< tt, refl)) refl other, refl)

let_before : (c : ℕ) (rest : List ℕ) → is_word_byte c ≡ false → IsPieceBefore (c ∷ rest) (token Word (codes "let"))
unfolding reserved
let_before c rest other = (word_before Word 108 (101 ∷ 116 ∷ []) c rest (refl, (4, lit< tt, refl)) refl other, refl)

add_before : (c : ℕ) (rest : List ℕ) → is_word_byte c ≡ false → IsPieceBefore (c ∷ rest) (token Word (codes "add"))
unfolding reserved
add_before c rest other = (word_before Word 97 (100 ∷ 100 ∷ []) c rest (refl, (5, lit< tt, refl)) refl other, refl)

to_before : (c : ℕ) (rest : List ℕ) → is_word_byte c ≡ false → IsPieceBefore (c ∷ rest) (token Word (codes "to"))
unfolding reserved
to_before c rest other = (word_before Word 116 (111 ∷ []) c rest (refl, (6, lit< tt, refl)) refl other, refl)

for_before : (c : ℕ) (rest : List ℕ) → is_word_byte c ≡ false → IsPieceBefore (c ∷ rest) (token Word (codes "for"))
unfolding reserved
for_before c rest other = (word_before Word 102 (111 ∷ 114 ∷ []) c rest (refl, (7, lit< tt, refl)) refl other, refl)

in_before : (c : ℕ) (rest : List ℕ) → is_word_byte c ≡ false → IsPieceBefore (c ∷ rest) (token Word (codes "in"))
unfolding reserved
in_before c rest other = (word_before Word 105 (110 ∷ []) c rest (refl, (8, lit< tt, refl)) refl other, refl)

if_before : (c : ℕ) (rest : List ℕ) → is_word_byte c ≡ false → IsPieceBefore (c ∷ rest) (token Word (codes "if"))
unfolding reserved
if_before c rest other = (word_before Word 105 (102 ∷ []) c rest (refl, (10, lit< tt, refl)) refl other, refl)

print_before : (c : ℕ) (rest : List ℕ) → is_word_byte c ≡ false → IsPieceBefore (c ∷ rest) (token Word (codes "print"))
unfolding reserved
print_before c rest other = (word_before Word 112 (114 ∷ 105 ∷ 110 ∷ 116 ∷ []) c rest (refl, (15, lit< tt, refl)) refl other, refl)

abbrev pub head_pieces : List Piece
head_pieces =
    token Word (codes "atoms") ∷ blank 32 ∷ token Word (codes "equality") ∷ token Symbol (codes ";") ∷ blank 10 ∷
    token Word (codes "let") ∷ blank 32 ∷ token Name (codes "s") ∷ blank 32 ∷ token Symbol (codes "=") ∷ blank 32 ∷
    token Symbol (codes "{") ∷ token Symbol (codes "}") ∷ token Symbol (codes ";") ∷ blank 10 ∷ []

pub head_before : (rest : List ℕ) → ArePiecesBefore rest head_pieces
head_before rest =
    atoms_before 32 _ refl ▸ refl ▸ equality_before 59 _ refl ▸ symbol_before 59 10 _ refl refl refl ▸ refl ▸
    let_before 32 _ refl ▸ refl ▸ name_before 115 32 _ refl refl ▸ refl ▸ symbol_before 61 32 _ refl refl refl ▸
    refl ▸ symbol_before 123 125 _ refl refl refl ▸ symbol_before 125 59 _ refl refl refl ▸
    symbol_before 59 10 _ refl refl refl ▸ refl ▸ tt

-- the loop whose tag ends with this digit
abbrev pub loop_pieces : ℕ → List Piece
loop_pieces d =
    token Word (codes "for") ∷ blank 32 ∷ token Name (codes "x") ∷ blank 32 ∷ token Word (codes "in") ∷ blank 32 ∷
    token Word (codes "atoms") ∷ blank 32 ∷ token Symbol (codes "{") ∷ blank 32 ∷ token Word (codes "for") ∷
    blank 32 ∷ token Name (codes "y") ∷ blank 32 ∷ token Word (codes "in") ∷ blank 32 ∷ token Word (codes "atoms") ∷
    blank 32 ∷ token Symbol (codes "{") ∷ blank 32 ∷ token Word (codes "if") ∷ blank 32 ∷ token Name (codes "x") ∷
    blank 32 ∷ token Symbol (codes "!=") ∷ blank 32 ∷ token Name (codes "y") ∷ blank 32 ∷ token Symbol (codes "{") ∷
    blank 32 ∷ token Word (codes "add") ∷ blank 32 ∷ token Symbol (codes "(") ∷ token Tag (39 ∷ 107 ∷ d ∷ []) ∷
    token Symbol (codes ",") ∷ blank 32 ∷ token Name (codes "x") ∷ token Symbol (codes ",") ∷ blank 32 ∷
    token Name (codes "y") ∷ token Symbol (codes ")") ∷ blank 32 ∷ token Word (codes "to") ∷ blank 32 ∷
    token Name (codes "s") ∷ token Symbol (codes ";") ∷ blank 32 ∷ token Symbol (codes "}") ∷ blank 32 ∷
    token Symbol (codes "}") ∷ blank 32 ∷ token Symbol (codes "}") ∷ blank 10 ∷ []

pub loop_before : (d : ℕ) (rest : List ℕ) → is_word_form (107 ∷ d ∷ []) ≡ true → ArePiecesBefore rest (loop_pieces d)
loop_before d rest digit =
    for_before 32 _ refl ▸ refl ▸ name_before 120 32 _ refl refl ▸ refl ▸ in_before 32 _ refl ▸ refl ▸
    atoms_before 32 _ refl ▸ refl ▸ symbol_before 123 32 _ refl refl refl ▸ refl ▸ for_before 32 _ refl ▸ refl ▸
    name_before 121 32 _ refl refl ▸ refl ▸ in_before 32 _ refl ▸ refl ▸ atoms_before 32 _ refl ▸ refl ▸
    symbol_before 123 32 _ refl refl refl ▸ refl ▸ if_before 32 _ refl ▸ refl ▸ name_before 120 32 _ refl refl ▸
    refl ▸ (pair_before 33 61 _ refl (is_pair 33 (inr refl)), refl) ▸ refl ▸ name_before 121 32 _ refl refl ▸ refl ▸
    symbol_before 123 32 _ refl refl refl ▸ refl ▸ add_before 32 _ refl ▸ refl ▸
    symbol_before 40 39 _ refl refl refl ▸ (tag_before 107 (d ∷ []) 44 _ digit refl, refl) ▸
    symbol_before 44 32 _ refl refl refl ▸ refl ▸ name_before 120 44 _ refl refl ▸
    symbol_before 44 32 _ refl refl refl ▸ refl ▸ name_before 121 41 _ refl refl ▸
    symbol_before 41 32 _ refl refl refl ▸ refl ▸ to_before 32 _ refl ▸ refl ▸ name_before 115 59 _ refl refl ▸
    symbol_before 59 32 _ refl refl refl ▸ refl ▸ symbol_before 125 32 _ refl refl refl ▸ refl ▸
    symbol_before 125 32 _ refl refl refl ▸ refl ▸ symbol_before 125 10 _ refl refl refl ▸ refl ▸ tt

abbrev pub tail_pieces : List Piece
tail_pieces =
    token Word (codes "print") ∷ blank 32 ∷ token Name (codes "s") ∷ token Symbol (codes ";") ∷ blank 10 ∷ []

pub tail_before : (rest : List ℕ) → ArePiecesBefore rest tail_pieces
tail_before rest =
    print_before 32 _ refl ▸ refl ▸ name_before 115 59 _ refl refl ▸ symbol_before 59 10 _ refl refl refl ▸ refl ▸ tt

pub tag_form : (i : ℕ) → is_word_form (107 ∷ (48 + i % 7) ∷ []) ≡ true
tag_form i = digit_form (48 + i % 7) (omega arith) (omega arith)
  where
    digit_form : (d : ℕ) → 48 ≤ d → d < 55 → is_word_form (107 ∷ d ∷ []) ≡ true
    digit_form d low high = grind (arith, nat_tests)
