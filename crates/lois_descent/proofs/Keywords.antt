-- The table of keywords stands beside that of the reserved words: the word of a keyword is the reserved one at its place.
use Rattle.std.proofs.Common.{◌≡◌, ℕ, ◌+◌, ◌<◌, ◌≤◌, arith, nat_lt, Bool, true, false, cond, Option, Some, None, List, [], ◌∷◌, ◌++◌, map, length, slice_index_or, Bor, codes, zero, suc, not, refl, ltb-false, sym, ap, ◌∙◌}
use Rattle.std.specs.List.{find, position, position_or_len}
use Rattle.std.specs.Str.{bytes_eq}
use Rattle.std.specs.Slice.{IsItemAt}
use Rattle.std.specs.Option.{option_copied}
use Rattle.lois_lexer.specs.declared.words.TheConstants.{RESERVED}
use Rattle.lois_descent.specs.declared.lexemes.TheConstants.{KEYWORDS}
use Rattle.lois_descent.specs.declared.lexemes.Keyword.{Keyword}
use Rattle.lois_descent.specs.declared.lexemes.Keyword.TheVariants.{Apply}
use Rattle.lois_descent.specs.declared.lexemes.Lexeme.TheVariants.{Word}
use Rattle.lois_descent.specs.Lexemes.{word_of, lexeme_from}
use Rattle.lois_lexer.specs.declared.TokenKind.TheVariants as kinds
use Rattle.lois_script.specs.declared.syntax.Operation.{Operation}
use Rattle.lois_script.specs.declared.syntax.Operation.TheVariants.{Union, Inter, Minus, Flatten, Reach, Product, Complement, Minimise}
use Rattle.lois_script.specs.Grammar.{operation_word}

-- the entry at a place, if there is one
abbrev pub entry_at : List Keyword → ℕ → Option Keyword
entry_at [] n = None
entry_at (k ∷ ks) zero = Some k
entry_at (k ∷ ks) (suc n) = entry_at ks n

one_more : (n : ℕ) → 1 + n ≡ suc n
one_more n = omega arith

found_by : (k : Keyword) (ks : List Keyword) (n : ℕ) (rest : Option Keyword) (b : Bool) → entry_at ks n ≡ rest →
    entry_at (k ∷ ks) (cond (not b) (1 + n) 0) ≡ cond b (Some k) rest
found_by k ks n rest true e = refl
found_by k ks n rest false e = ap (entry_at (k ∷ ks)) (one_more n) ∙ e

-- what has the spelling stands where the spelling stands among the words of the keywords, whatever follows these
found_at : (ks : List Keyword) (more : List (List ℕ)) (bytes : List ℕ) →
    entry_at ks (position_or_len (λ word. bytes_eq word bytes) (map word_of ks ++ more)) ≡ find (λ k. bytes_eq (word_of k) bytes) ks
found_at [] more bytes = refl
found_at (k ∷ ks) more bytes =
    found_by k ks (position_or_len (λ word. bytes_eq word bytes) (map word_of ks ++ more)) (find (λ k. bytes_eq (word_of k) bytes) ks) (bytes_eq (word_of k) bytes) (found_at ks more bytes)

-- each reserved word but the last two is that of the keyword at its place
in_order : map (λ word. word.now) RESERVED ≡ map word_of KEYWORDS ++ codes "case" ∷ codes "end" ∷ []
in_order = refl

keyword_at : (bytes : List ℕ) → entry_at KEYWORDS (position_or_len (λ word. bytes_eq word.now bytes) RESERVED) ≡ find (λ k. bytes_eq (word_of k) bytes) KEYWORDS
keyword_at bytes =
    ap (λ words. entry_at KEYWORDS (position_or_len (λ word. bytes_eq word bytes) words)) in_order ∙ found_at KEYWORDS (codes "case" ∷ codes "end" ∷ []) bytes

beyond : (ks : List Keyword) (n : ℕ) → length ks ≤ n → entry_at ks n ≡ None
beyond [] n h = refl
beyond (k ∷ ks) zero h = absurd (omega (arith, h))
beyond (k ∷ ks) (suc n) h = beyond ks n (omega (arith, h))

there : (ks : List Keyword) (n : ℕ) (x : Keyword) → n < length ks → ((d : Keyword) → x ≡ slice_index_or ks n d) → Some x ≡ entry_at ks n
there [] n x h e = absurd (omega (arith, h))
there (k ∷ ks) zero x h e = ap Some (e k)
there (k ∷ ks) (suc n) x h e = there ks n x (omega (arith, h)) e

-- what `get` and `copied` give
pub got : (ks : List Keyword) (n : ℕ) (r : Option (Bor Keyword)) → IsItemAt ks n r → option_copied r ≡ entry_at ks n
got ks n None h = sym (beyond ks n h.3)
got ks n (Some x) h = there ks n x.now h.3.0 h.3.1

-- a place of a word, as it is told, and what stands there
found_place : (n most place : ℕ) (b : Bool) → nat_lt n most ≡ b → cond b (Some n) None ≡ Some place → n ≡ place
found_place n most place true e h = cc
found_place n most place false e h = absurd (cc)

no_place : (n most : ℕ) (b : Bool) → nat_lt n most ≡ b → cond b (Some n) None ≡ None → most ≤ n
no_place n most true e h = absurd (cc)
no_place n most false e h = ltb-false n most e

pub no_keyword : (bytes : List ℕ) → position (λ word. bytes_eq word.now bytes) RESERVED ≡ None → find (λ k. bytes_eq (word_of k) bytes) KEYWORDS ≡ None
no_keyword bytes h =
    let n = position_or_len (λ word. bytes_eq word.now bytes) RESERVED in
    sym (keyword_at bytes) ∙ beyond KEYWORDS n (omega (arith, no_place n 36 (nat_lt n 36) refl h))

pub keyword_there : (bytes : List ℕ) (place : ℕ) → position (λ word. bytes_eq word.now bytes) RESERVED ≡ Some place →
    entry_at KEYWORDS place ≡ find (λ k. bytes_eq (word_of k) bytes) KEYWORDS
keyword_there bytes place h =
    let n = position_or_len (λ word. bytes_eq word.now bytes) RESERVED in
    ap (entry_at KEYWORDS) (sym (found_place n 36 place (nat_lt n 36) refl h)) ∙ keyword_at bytes

pub word_lexeme : (op : Operation) → lexeme_from kinds.Word (operation_word op) ≡ Word (Apply op)
word_lexeme Union = refl
word_lexeme Inter = refl
word_lexeme Minus = refl
word_lexeme Flatten = refl
word_lexeme Reach = refl
word_lexeme Product = refl
word_lexeme Complement = refl
word_lexeme Minimise = refl

pub one_operation : (o r : Operation) → operation_word o ≡ operation_word r → o ≡ r
one_operation o r e = let same : Word (Apply o) ≡ Word (Apply r) = sym (word_lexeme o) ∙ ap (lexeme_from kinds.Word) e ∙ word_lexeme r in cc
