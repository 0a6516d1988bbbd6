-- What is written token by token, with a blank behind each, is read again.
use Rattle.std.proofs.Common.{◌≡◌, ℕ, ◌+◌, ◌-◌, ◌<◌, Bool, true, not, ◌&&◌, List, [], ◌∷◌, ◌++◌, length, get_or, take, drop, map, subst, sym, refl, ap, ◌∙◌, arith, append_assoc, append-nil, length-append, length-take, get_or-take, take_all}
use Rattle.std.specs.Prelude.{IsTrue, All}
use Rattle.std.specs.List.{flat_map, list_all}
use Rattle.std.specs.Char.{is_ascii_digit}
use Rattle.std.proofs.lemmas.Bool.{both_ways, not-true}
use Rattle.std.proofs.lemmas.Bool.Decides.{nat_tests}
use Rattle.std.proofs.lemmas.List.{take-append-le}
use Rattle.std.proofs.lemmas.List.Elements.{All-head, All-tail}
use Rattle.std.proofs.lemmas.List.Sums.{AllPass-from_list_all, list_all-from_AllPass}
use Rattle.lois_lexer.specs.declared.TokenKind.{TokenKind}
use Rattle.lois_lexer.specs.declared.TokenKind.TheVariants.{Name, Word, Tag, Number, Symbol}
use Rattle.lois_lexer.specs.declared.Token.{Token}
use Rattle.lois_lexer.specs.Bytes.{is_blank, is_word_byte}
use Rattle.lois_lexer.specs.Words.{symbols}
use Rattle.lois_lexer.specs.Forms.{is_word_form, HasForm, is_within_limits}
use Rattle.lois_lexer.specs.Tokens.{Longest, IsTrivia, IsCut, bytes_of}
use Rattle.lois_lexer.specs.SpelledTokens.{spelled}
use Rattle.lois_lexer.specs.Tokens.IsTrivia.{one_blank}
use Rattle.lois_lexer.specs.Tokens.IsCut.{at_start, past_gap, past_token}
use Rattle.lois_lexer.specs.Laws.{Written, IsWritten, text_of, WrittenIsRead}
use Rattle.lois_lexer.proofs.Forms.{passed_by_symbol, word_bytes}

-- no byte of a token is a blank
abbrev is_dark : ℕ → Bool
is_dark b = not (is_blank b)

word_byte_dark : (b : ℕ) → is_word_byte b ≡ true → is_dark b ≡ true
word_byte_dark b h = grind (arith, nat_tests)

digit_dark : (b : ℕ) → is_ascii_digit b ≡ true → is_dark b ≡ true
digit_dark b h = grind (arith, nat_tests)

all_through : (p q : ℕ → Bool) → ((b : ℕ) → p b ≡ true → q b ≡ true) → (bytes : List ℕ) → list_all p bytes ≡ true → list_all q bytes ≡ true
all_through p q through bytes h = list_all-from_AllPass q bytes (λ k d below. through (get_or bytes k d) (AllPass-from_list_all p bytes h k d below))

word_dark : (bytes : List ℕ) → is_word_form bytes ≡ true → list_all is_dark bytes ≡ true
word_dark bytes h = all_through is_word_byte is_dark word_byte_dark bytes (word_bytes bytes h)

form_dark : (kind : TokenKind) (bytes : List ℕ) → HasForm kind bytes → list_all is_dark bytes ≡ true
unfolding symbols
form_dark Name bytes h = word_dark bytes h.0
form_dark Word bytes h = word_dark bytes h.0
form_dark Tag [] h = refl
form_dark Tag (b ∷ bs) h = ap (λ a. is_dark a && list_all is_dark bs) h.0 ∙ word_dark bs h.1
form_dark Number [] h = refl
form_dark Number (b ∷ bs) h = all_through is_ascii_digit is_dark digit_dark (b ∷ bs) h
form_dark Symbol bytes h = passed_by_symbol (λ xs. list_all is_dark xs) refl bytes h

-- the front of an append
front_of : (bytes rest : List ℕ) → take (length bytes) (bytes ++ rest) ≡ bytes
front_of bytes rest = take-append-le (length bytes) bytes rest (omega arith) ∙ take_all (length bytes) bytes (omega arith)

rest_after : (bytes rest : List ℕ) → drop (length bytes) (bytes ++ rest) ≡ rest
rest_after [] rest = refl
rest_after (b ∷ bs) rest = rest_after bs rest

byte_after : (bytes rest : List ℕ) (b : ℕ) → get_or (bytes ++ b ∷ rest) (length bytes) 0 ≡ b
byte_after [] rest b = refl
byte_after (c ∷ cs) rest b = byte_after cs rest b

-- before a blank a token is the longest
longest_before : (kind : TokenKind) (bytes rest : List ℕ) (b : ℕ) → HasForm kind bytes → is_blank b ≡ true → Longest (bytes ++ b ∷ rest) kind (length bytes)
longest_before kind bytes rest b form blank = record {
  within = omega (arith, length-append bytes (b ∷ rest));
  form = subst (HasForm kind) (sym (front_of bytes (b ∷ rest))) form;
  longest = λ other m over within h.
      let all = bytes ++ b ∷ rest in
      let n = length bytes in
      let inside : length bytes < length (take m (bytes ++ b ∷ rest)) = omega (arith, length-take m all) in
      let dark : is_dark (get_or (take m (bytes ++ b ∷ rest)) (length bytes) 0) ≡ true = AllPass-from_list_all is_dark (take m all) (form_dark other (take m all) h) n 0 inside in
      let same : get_or (take m (bytes ++ b ∷ rest)) (length bytes) 0 ≡ b = get_or-take m all n 0 over ∙ byte_after bytes rest b in
      both_ways (is_blank b) (not-true (is_blank b) (ap is_dark (sym same) ∙ dark)) blank;
}

-- one more token, and its blank
module _ (text front bytes rest : List ℕ) (kind : TokenKind) (b : ℕ) (is_text : text ≡ front ++ (bytes ++ b ∷ rest)) where
  from_front : drop (length front) text ≡ bytes ++ b ∷ rest
  from_front = ap (drop (length front)) is_text ∙ rest_after front (bytes ++ b ∷ rest)

  from_blank : drop (length front + length bytes) text ≡ b ∷ rest
  from_blank =
      let sum : length front + length bytes ≡ length (front ++ bytes) = sym (length-append front bytes) in
      ap (λ k. drop k text) sum ∙ ap (drop (length (front ++ bytes))) (is_text ∙ sym (append_assoc front bytes (b ∷ rest))) ∙ rest_after (front ++ bytes) (b ∷ rest)

  abbrev this : Token
  this = record { kind = kind; from = length front; to = length front + length bytes }

  one_more : (tokens : List Token) → HasForm kind bytes → IsTrue (is_within_limits kind bytes) → is_blank b ≡ true → IsCut text (length front) tokens → IsCut text (length front + length bytes + 1) (tokens ++ this ∷ [])
  one_more tokens form limits blank cut =
      let token : Longest (drop (length front) text) kind (length bytes) = subst (λ xs. Longest xs kind (length bytes)) (sym from_front) (longest_before kind bytes rest b form blank) in
      let front_is : take (length bytes) (drop (length front) text) ≡ bytes = ap (take (length bytes)) from_front ∙ front_of bytes (b ∷ rest) in
      let past = past_token (length front) (length bytes) kind tokens cut token (subst (λ xs. IsTrue (is_within_limits kind xs)) (sym front_is) limits) in
      past_gap (length front + length bytes) 1 (tokens ++ this ∷ []) past (subst (λ xs. IsTrivia xs 1) (sym from_blank) (one_blank (omega arith) blank))

  this_bytes : bytes_of text this ≡ bytes
  this_bytes =
      let same : length front + length bytes - length front ≡ length bytes = omega arith in
      ap (λ k. take k (drop (length front) text)) same ∙ ap (take (length bytes)) from_front ∙ front_of bytes (b ∷ rest)

read_from : (ws : List Written) (text front : List ℕ) (tokens : List Token) → text ≡ front ++ flat_map text_of ws → All IsWritten ws → IsCut text (length front) tokens →
    (more : List Token) × IsCut text (length text) (tokens ++ more) × (spelled text more ≡ map (λ (w : Written). w.token) ws)
read_from [] text front tokens is_text written cut =
    let all : text ≡ front = is_text ∙ append-nil front in
    ([], subst (λ l. IsCut text (length text) l) (sym (append-nil tokens)) (subst (λ (k : ℕ). IsCut text k tokens) (ap length (sym all)) cut), refl)
read_from (w ∷ ws) text front tokens is_text written cut =
    let bytes = w.token.bytes in
    let rest = flat_map text_of ws in
    let each = All-head IsWritten w ws written in
    let is_split : text ≡ front ++ (w.token.bytes ++ w.blank ∷ flat_map text_of ws) = is_text ∙ ap (λ l. front ++ l) (append_assoc bytes (w.blank ∷ []) rest) in
    let front' = front ++ text_of w in
    let is_text' : text ≡ (front ++ text_of w) ++ flat_map text_of ws = is_text ∙ sym (append_assoc front (text_of w) rest) in
    let t = this text front bytes rest w.token.kind w.blank is_split in
    let len : length front + length w.token.bytes + 1 ≡ length (front ++ text_of w) = omega (arith, length-append front (text_of w), length-append bytes (w.blank ∷ [])) in
    let cut' = subst (λ (k : ℕ). IsCut text k (tokens ++ t ∷ [])) len (one_more text front bytes rest w.token.kind w.blank is_split tokens each.form each.limits each.blank cut) in
    let further = read_from ws text front' (tokens ++ t ∷ []) is_text' (All-tail IsWritten w ws written) cut' in
    let head : bytes_of text t ≡ w.token.bytes = this_bytes text front bytes rest w.token.kind w.blank is_split in (
      t ∷ further.0,
      subst (λ l. IsCut text (length text) l) (append_assoc tokens (t ∷ []) further.0) further.1,
      (λ i. record { kind = w.token.kind; bytes = head i } ∷ further.2 i),
    )

pub written_is_read : WrittenIsRead
written_is_read ws written =
    let text = flat_map text_of ws in
    read_from ws text [] [] refl written at_start
