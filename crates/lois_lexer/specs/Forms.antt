-- The forms of tokens, and their limits.
use Rattle.std.specs.Prelude.{◌≡◌, ℕ, Bool, true, false, ◌||◌, ◌&&◌, List, [], ◌∷◌, length, slice_index, IsTrue, Contains, nat_le, ◌==◌, not}
use Rattle.std.specs.List.{list_all}
use Rattle.std.specs.Char.{is_ascii_alphabetic, is_ascii_digit}
use Rattle.lois_lexer.specs.declared.TokenKind.{TokenKind}
use Rattle.lois_lexer.specs.declared.TokenKind.TheVariants.{Name, Word, Tag, Number, Symbol}
use Rattle.lois_lexer.specs.Bytes.{is_word_byte}
use Rattle.lois_lexer.specs.Words.{reserved, symbols}

-- a letter, then letters, digits and `_`
abbrev pub is_word_form : List ℕ → Bool
is_word_form [] = false
is_word_form (b ∷ bs) = is_ascii_alphabetic b && list_all is_word_byte bs

-- The bytes are a token of this kind, limits left aside.
abbrev pub HasForm : TokenKind → List ℕ → Type 0
HasForm Word bytes = IsTrue (is_word_form bytes) × Contains reserved bytes
HasForm Name bytes = IsTrue (is_word_form bytes) × (Contains reserved bytes → ⊥)
HasForm Tag [] = ⊥
HasForm Tag (b ∷ bs) = (b ≡ 39) × IsTrue (is_word_form bs)
HasForm Number [] = ⊥
HasForm Number (b ∷ bs) = IsTrue (list_all is_ascii_digit (b ∷ bs))
HasForm Symbol bytes = Contains symbols bytes

-- A word, a name and what follows the quote of a tag have at most 64 bytes. A number has at most 9 digits,
-- and begins with 0 only where that is all of it.
abbrev pub is_within_limits : TokenKind → List ℕ → Bool
is_within_limits Word bytes = nat_le (length bytes) 64
is_within_limits Name bytes = nat_le (length bytes) 64
is_within_limits Tag bytes = nat_le (length bytes) 65
is_within_limits Number bytes = nat_le (length bytes) 9 && (length bytes == 1 || not (slice_index bytes 0 == 48))
is_within_limits Symbol bytes = true
