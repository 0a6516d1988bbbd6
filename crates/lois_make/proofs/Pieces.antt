-- A text that is written as blanks and tokens is cut into these tokens, where each is the longest before what follows it.
use Rattle.std.proofs.Common.{◌≡◌, ℕ, suc, ◌+◌, ◌-◌, true, false, ◌&&◌, ◌||◌, ◌==◌, List, [], ◌∷◌, ◌++◌, length, take, drop, map, subst, sym, refl, ap, ◌∙◌, arith, append_assoc, append-nil, length-append}
use Rattle.std.specs.Prelude.{IsTrue, Contains}
use Rattle.std.specs.List.{list_all, prefix_len}
use Rattle.std.proofs.lemmas.Bool.{false≢true, and_parts}
use Rattle.std.proofs.Math.Seq.{take-append_seam, drop-append_seam}
use Rattle.lois_lexer.specs.declared.TokenKind.{TokenKind}
use Rattle.lois_lexer.specs.declared.TokenKind.TheVariants.{Tag, Symbol}
use Rattle.lois_lexer.specs.declared.Token.{Token}
use Rattle.lois_lexer.specs.Bytes.{is_blank, is_word_byte}
use Rattle.lois_lexer.specs.Words.{symbols}
use Rattle.lois_lexer.specs.Forms.{is_word_form, HasForm, is_within_limits}
use Rattle.lois_lexer.specs.Tokens.{Longest, IsTrivia, IsCut, bytes_of}
use Rattle.lois_lexer.specs.Tokens.IsTrivia.{one_blank}
use Rattle.lois_lexer.specs.Tokens.IsCut.{past_gap, past_token}
use Rattle.lois_lexer.proofs.Forms.{class_of, letter_first, word_bytes, pair_from}
use Rattle.lois_lexer.proofs.Longest.{word_longest, tag_longest, pair_longest, single_longest}
use Rattle.lois_script.specs.Grammar.{PlacedToken, token_at_place}

pub data Piece : Type 0 where
  blank : ℕ → Piece
  token : TokenKind → List ℕ → Piece

abbrev pub piece_bytes : Piece → List ℕ
piece_bytes (blank b) = b ∷ []
piece_bytes (token kind bytes) = bytes

abbrev pub pieces_bytes : List Piece → List ℕ
pieces_bytes [] = []
pieces_bytes (p ∷ ps) = piece_bytes p ++ pieces_bytes ps

abbrev pub IsPieceBefore : List ℕ → Piece → Type 0
IsPieceBefore rest (blank b) = IsTrue (is_blank b)
IsPieceBefore rest (token kind bytes) = Longest (bytes ++ rest) kind (length bytes) × IsTrue (is_within_limits kind bytes)

abbrev pub ArePiecesBefore : List ℕ → List Piece → Type 0
ArePiecesBefore rest [] = Unit {0}
ArePiecesBefore rest (p ∷ ps) = IsPieceBefore (pieces_bytes ps ++ rest) p × ArePiecesBefore rest ps

-- a piece, and those behind it
infixr 5 ◌▸◌
pub ◌▸◌ : {A B : Type 0} → A → B → A × B
a ▸ b = (a, b)

-- the tokens, where the first piece stands k behind a place
abbrev pub placed_pieces : ℕ → ℕ → List Piece → List PlacedToken
placed_pieces at k [] = []
placed_pieces at k (blank b ∷ ps) = placed_pieces at (k + 1) ps
placed_pieces at k (token kind bytes ∷ ps) =
    record { kind = kind; bytes = bytes; place = at + k } ∷ placed_pieces at (k + length bytes) ps

-- a word or a name before a byte that is none of a word
run_before : (bytes : List ℕ) (c : ℕ) (rest : List ℕ) → list_all is_word_byte bytes ≡ true → is_word_byte c ≡ false → prefix_len is_word_byte (bytes ++ c ∷ rest) ≡ length bytes
run_before [] c rest all other = simp other refl
run_before (b ∷ bs) c rest all other =
    let both = and_parts (is_word_byte b) (list_all is_word_byte bs) all in
    simp (both.0, run_before bs c rest both.1 other) (omega arith)

pub word_before : (kind : TokenKind) (b : ℕ) (bs : List ℕ) (c : ℕ) (rest : List ℕ) → HasForm kind (b ∷ bs) → is_word_form (b ∷ bs) ≡ true → is_word_byte c ≡ false → Longest (b ∷ bs ++ c ∷ rest) kind (length (b ∷ bs))
word_before kind b bs c rest form is_word other =
    let all : List ℕ = b ∷ bs ++ c ∷ rest in
    let n : prefix_len is_word_byte (b ∷ bs ++ c ∷ rest) ≡ length (b ∷ bs) = run_before (b ∷ bs) c rest (word_bytes (b ∷ bs) is_word) other in
    let here : HasForm kind (take (length (b ∷ bs)) (b ∷ bs ++ c ∷ rest)) = subst (HasForm kind) (sym (take-append_seam (b ∷ bs) (c ∷ rest))) form in
    let at_run : HasForm kind (take (prefix_len is_word_byte (b ∷ bs ++ c ∷ rest)) (b ∷ bs ++ c ∷ rest)) = subst (λ k. HasForm kind (take k (b ∷ bs ++ c ∷ rest))) (sym n) here in
    subst (λ k. Longest (b ∷ bs ++ c ∷ rest) kind k) n (word_longest (b ∷ bs ++ c ∷ rest) (omega arith) (letter_first b bs is_word) kind at_run)

pub tag_before : (b : ℕ) (bs : List ℕ) (c : ℕ) (rest : List ℕ) → is_word_form (b ∷ bs) ≡ true → is_word_byte c ≡ false → Longest (39 ∷ b ∷ bs ++ c ∷ rest) Tag (length (39 ∷ b ∷ bs))
tag_before b bs c rest is_word other =
    let n : prefix_len is_word_byte (b ∷ bs ++ c ∷ rest) ≡ length (b ∷ bs) = run_before (b ∷ bs) c rest (word_bytes (b ∷ bs) is_word) other in
    subst (λ k. Longest (39 ∷ b ∷ bs ++ c ∷ rest) Tag (suc k)) n (tag_longest (b ∷ bs ++ c ∷ rest) (omega arith) (letter_first b bs is_word))

-- a symbol of one byte before a byte with which it makes none of two
pub single_before : (b c : ℕ) (rest : List ℕ) → class_of b ≡ 3 → Contains symbols (b ∷ []) → ((b == 58 || b == 33) && c == 61) ≡ false → Longest (b ∷ c ∷ rest) Symbol 1
single_before b c rest class is_symbol no_pair = single_longest (b ∷ c ∷ rest) class (omega arith) is_symbol (λ two pair. false≢true (sym no_pair ∙ pair_from b c pair))

pub pair_before : (b c : ℕ) (rest : List ℕ) → class_of b ≡ 3 → Contains symbols (b ∷ c ∷ []) → Longest (b ∷ c ∷ rest) Symbol 2
pair_before b c rest class is_symbol = pair_longest (b ∷ c ∷ rest) class (omega arith) is_symbol

-- one more piece behind the front of a text
module _ (text front rest : List ℕ) (is_text : text ≡ front ++ rest) where
  behind : drop (length front) text ≡ rest
  behind = ap (drop (length front)) is_text ∙ drop-append_seam front rest

blank_more : (text front rest : List ℕ) (b : ℕ) (tokens : List Token) → text ≡ front ++ b ∷ rest → IsTrue (is_blank b) → IsCut text (length front) tokens → IsCut text (length (front ++ b ∷ [])) tokens
blank_more text front rest b tokens is_text is cut =
    let past = past_gap (length front) 1 tokens cut (subst (λ xs. IsTrivia xs 1) (sym (behind text front (b ∷ rest) is_text)) (one_blank (omega arith) is)) in
    subst (λ k. IsCut text k tokens) (sym (length-append front (b ∷ []))) past

abbrev token_here : List ℕ → TokenKind → List ℕ → Token
token_here front kind bytes = record { kind = kind; from = length front; to = length front + length bytes }

module _ (text front bytes rest : List ℕ) (kind : TokenKind) (is_text : text ≡ front ++ (bytes ++ rest)) where
  first_is : take (length bytes) (drop (length front) text) ≡ bytes
  first_is = ap (take (length bytes)) (behind text front (bytes ++ rest) is_text) ∙ take-append_seam bytes rest

  bytes_are : bytes_of text (token_here front kind bytes) ≡ bytes
  bytes_are =
      let same : length front + length bytes - length front ≡ length bytes = omega arith in
      ap (λ k. take k (drop (length front) text)) same ∙ first_is

  token_more : (tokens : List Token) → IsPieceBefore rest (token kind bytes) → IsCut text (length front) tokens → IsCut text (length (front ++ bytes)) (tokens ++ token_here front kind bytes ∷ [])
  token_more tokens is cut =
      let longest = subst (λ xs. Longest xs kind (length bytes)) (sym (behind text front (bytes ++ rest) is_text)) is.0 in
      let limits = subst (λ xs. IsTrue (is_within_limits kind xs)) (sym first_is) is.1 in
      subst (λ k. IsCut text k (tokens ++ token_here front kind bytes ∷ [])) (sym (length-append front bytes)) (past_token (length front) (length bytes) kind tokens cut longest limits)

-- up to behind the pieces the text is cut into the tokens before and those of the pieces
pub cut_pieces : (ps : List Piece) (text front rest : List ℕ) (at k : ℕ) (tokens : List Token) → text ≡ front ++ (pieces_bytes ps ++ rest) → length front ≡ at + k → ArePiecesBefore rest ps → IsCut text (length front) tokens →
    (more : List Token) × IsCut text (length (front ++ pieces_bytes ps)) (tokens ++ more) × (map (token_at_place text) more ≡ placed_pieces at k ps)
cut_pieces [] text front rest at k tokens is_text is_at are cut =
    ([], subst (λ l. IsCut text (length l) (tokens ++ [])) (sym (append-nil front)) (subst (λ ts. IsCut text (length front) ts) (sym (append-nil tokens)) cut), refl)
cut_pieces (blank b ∷ ps) text front rest at k tokens is_text is_at are cut =
    let further = front ++ b ∷ [] in
    let is_text' : text ≡ (front ++ b ∷ []) ++ (pieces_bytes ps ++ rest) = is_text ∙ sym (append_assoc front (b ∷ []) (pieces_bytes ps ++ rest)) in
    let is_at' : length (front ++ b ∷ []) ≡ at + (k + 1) = omega (arith, length-append front (b ∷ [])) in
    let found = cut_pieces ps text (front ++ b ∷ []) rest at (k + 1) tokens is_text' is_at' are.1 (blank_more text front (pieces_bytes ps ++ rest) b tokens is_text are.0 cut) in
    (found.0, subst (λ l. IsCut text (length l) (tokens ++ found.0)) (append_assoc front (b ∷ []) (pieces_bytes ps)) found.1, found.2)
cut_pieces (token kind bytes ∷ ps) text front rest at k tokens is_text is_at are cut =
    let after = pieces_bytes ps ++ rest in
    let here = token_here front kind bytes in
    let is_token : text ≡ front ++ (bytes ++ (pieces_bytes ps ++ rest)) = is_text ∙ ap (λ l. front ++ l) (append_assoc bytes (pieces_bytes ps) rest) in
    let is_text' : text ≡ (front ++ bytes) ++ (pieces_bytes ps ++ rest) = is_token ∙ sym (append_assoc front bytes (pieces_bytes ps ++ rest)) in
    let is_at' : length (front ++ bytes) ≡ at + (k + length bytes) = omega (arith, length-append front bytes) in
    let cut' = token_more text front bytes (pieces_bytes ps ++ rest) kind is_token tokens are.0 cut in
    let found = cut_pieces ps text (front ++ bytes) rest at (k + length bytes) (tokens ++ here ∷ []) is_text' is_at' are.1 cut' in
    let same : bytes_of text (token_here front kind bytes) ≡ bytes = bytes_are text front bytes (pieces_bytes ps ++ rest) kind is_token in (
      here ∷ found.0,
      subst (λ l. IsCut text (length l) (tokens ++ here ∷ found.0)) (append_assoc front bytes (pieces_bytes ps)) (subst (λ ts. IsCut text (length ((front ++ bytes) ++ pieces_bytes ps)) ts) (append_assoc tokens (here ∷ []) found.0) found.1),
      (λ i. record { kind = kind; bytes = same i; place = is_at i } ∷ found.2 i),
    )
