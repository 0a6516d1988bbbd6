-- The tokens of a text are readable, and what is known of the bytes of readable tokens.
use Rattle.std.proofs.Common.{◌≡◌, ℕ, ◌≤◌, true, List, [], ◌∷◌, length, drop, refl, sym, ap, ◌∙◌, subst, arith}
use Rattle.std.specs.Prelude.{◌<◌, ◌&&◌, IsTrue, nat_eq, nat_le, slice_index_or}
use Rattle.std.specs.Prelude.{cond as choose}
use Rattle.std.specs.List.{list_all, IsFirstAndRest}
use Rattle.std.specs.Char.{is_ascii_digit}
use Rattle.std.proofs.lemmas.Bool.{and_from, and_parts, leb-true, le-leb, eq-eqb}
use Rattle.std.proofs.lemmas.List.Sums.{list_all-from_AllPass}
use Rattle.lois_base.specs.Names.{IsName, begins_with_letter, is_name_byte}
use Rattle.lois_lexer.specs.declared.TokenKind.{TokenKind}
use Rattle.lois_lexer.specs.declared.TokenKind.TheVariants as kinds
use Rattle.lois_lexer.specs.declared.Token.{Token}
use Rattle.lois_lexer.specs.Forms.{HasForm, is_within_limits}
use Rattle.lois_lexer.specs.Tokens.{HasTokens, bytes_of}
use Rattle.lois_lexer.specs.InText.{IsTokenOf}
use Rattle.lois_lexer.proofs.OneReading.{tokens_of_cut}
use Rattle.lois_descent.specs.Lexemes.{as_tag, lexeme_from, accepts}
use Rattle.lois_parser.specs.Readable.{is_name, is_digits, is_tag, suits, is_readable, are_readable}
use Rattle.lois_descent.specs.Refusals.{tokens_in}
use Rattle.lois_descent.specs.Steps.{first_lexeme}
use Rattle.lois_descent.specs.declared.lexemes.Lexeme.TheVariants as lexemes
use Rattle.lois_descent.specs.declared.lexemes.Terminal.TheVariants as terminals
use Rattle.lois_descent.proofs.AcceptedTokens.{name_accepted, number_accepted}
use Rattle.lois_script.proofs.Names.{is_name as name_form, is_tag_name as tag_form}
use Rattle.lois_descent.proofs.Tokens.{kind_is}

pub record Lies (text : List ℕ) (t : Token) : Type 0 where
  pub forward : t.from ≤ t.to
  pub within : t.to ≤ length text
  pub suited : suits t.kind (bytes_of text t) ≡ true

pub lies : (text : List ℕ) (t : Token) → is_readable text t ≡ true → Lies text t
unfolding is_readable
lies text t h =
    let both : (nat_le t.from t.to ≡ true) × _ = and_parts (nat_le t.from t.to) _ h in
    let rest : (nat_le t.to (length text) ≡ true) × _ = and_parts (nat_le t.to (length text)) (suits t.kind (bytes_of text t)) both.1 in
    record { forward = leb-true t.from t.to both.0; within = leb-true t.to (length text) rest.0; suited = rest.1 }

pub first_readable : (text : List ℕ) (tokens : List Token) (t : Token) (rest : List Token) → IsFirstAndRest tokens t rest → IsTrue (are_readable text tokens) → (is_readable text t ≡ true) × (are_readable text rest ≡ true)
unfolding are_readable
first_readable text tokens t rest split h = and_parts (is_readable text t) (list_all (is_readable text) rest) (subst (λ ts. list_all (is_readable text) ts ≡ true) split.0 h)

pub name_from : (bytes : List ℕ) → is_name bytes ≡ true → IsName bytes
name_from bytes h =
    let both : (nat_le (length bytes) 64 ≡ true) × _ = and_parts (nat_le (length bytes) 64) _ h in
    let rest : (begins_with_letter bytes ≡ true) × _ = and_parts (begins_with_letter bytes) (list_all is_name_byte bytes) both.1 in
    record { short = leb-true (length bytes) 64 both.0; letter = rest.0; bytes = rest.1 }

pub tag_from : (bytes : List ℕ) → is_tag bytes ≡ true → (as_tag bytes ≡ lexemes.Tag) × (1 ≤ length bytes) × IsName (drop 1 bytes)
tag_from [] h = absurd (cc)
tag_from (b ∷ bs) h =
    let both : (nat_eq b 39 ≡ true) × (is_name bs ≡ true) = and_parts (nat_eq b 39) (is_name bs) h in (
      ap (λ x. choose x lexemes.Tag lexemes.Other) both.0,
      omega arith,
      name_from bs both.1,
    )

module _ (text : List ℕ) (tokens : List Token) (t : Token) (rest : List Token) (split : IsFirstAndRest tokens t rest) (h : IsTrue (are_readable text tokens)) where
  pub first_lies : Lies text t
  first_lies = lies text t (first_readable text tokens t rest split h).0

  pub rest_readable : IsTrue (are_readable text rest)
  rest_readable = (first_readable text tokens t rest split h).1

  first_is : first_lexeme (tokens_in text tokens) ≡ lexeme_from t.kind (bytes_of text t)
  first_is = ap (λ ts. first_lexeme (tokens_in text ts)) split.0

  pub tag_suits : t.kind ≡ kinds.Tag → as_tag (bytes_of text t) ≡ lexemes.Tag
  tag_suits e = (tag_from (bytes_of text t) (subst (λ k. suits k (bytes_of text t) ≡ true) e first_lies.suited)).0

  pub named : accepts terminals.Name (first_lexeme (tokens_in text tokens)) ≡ true → IsName (bytes_of text t)
  named e =
      let l : lexeme_from t.kind (bytes_of text t) ≡ lexemes.Name = sym first_is ∙ name_accepted (first_lexeme (tokens_in text tokens)) e in
      let kind : t.kind ≡ kinds.Name = kind_is t.kind (bytes_of text t) lexemes.Name kinds.Name l refl in
      name_from (bytes_of text t) (subst (λ k. suits k (bytes_of text t) ≡ true) kind first_lies.suited)

  pub tagged : first_lexeme (tokens_in text tokens) ≡ lexemes.Tag → (1 ≤ length (bytes_of text t)) × IsName (drop 1 (bytes_of text t))
  tagged e =
      let kind : t.kind ≡ kinds.Tag = kind_is t.kind (bytes_of text t) lexemes.Tag kinds.Tag (sym first_is ∙ e) refl in
      let found = tag_from (bytes_of text t) (subst (λ k. suits k (bytes_of text t) ≡ true) kind first_lies.suited) in
      (found.1, found.2)

  pub counted : accepts terminals.Number (first_lexeme (tokens_in text tokens)) ≡ true → is_digits (bytes_of text t) ≡ true
  counted e =
      let l : lexeme_from t.kind (bytes_of text t) ≡ lexemes.Number = sym first_is ∙ number_accepted (first_lexeme (tokens_in text tokens)) e in
      let kind : t.kind ≡ kinds.Number = kind_is t.kind (bytes_of text t) lexemes.Number kinds.Number l refl in
      subst (λ k. suits k (bytes_of text t) ≡ true) kind first_lies.suited

pub number_parts : (digits : List ℕ) → is_digits digits ≡ true → (length digits ≤ 9) × (list_all is_ascii_digit digits ≡ true)
number_parts digits h =
    let both : (nat_le (length digits) 9 ≡ true) × (list_all is_ascii_digit digits ≡ true) = and_parts (nat_le (length digits) 9) (list_all is_ascii_digit digits) h in
    (leb-true (length digits) 9 both.0, both.1)

-- ---- the tokens of a text are readable

name_bytes_suit : (bytes : List ℕ) → IsName bytes → is_name bytes ≡ true
name_bytes_suit bytes h = and_from (nat_le (length bytes) 64) (begins_with_letter bytes && list_all is_name_byte bytes) (le-leb (length bytes) 64 h.short)
    (and_from (begins_with_letter bytes) (list_all is_name_byte bytes) h.letter h.bytes)

tag_bytes_suit : (bytes : List ℕ) → HasForm kinds.Tag bytes → IsName (drop 1 bytes) → is_tag bytes ≡ true
tag_bytes_suit [] h n = absurd h
tag_bytes_suit (b ∷ bs) h n = and_from (nat_eq b 39) (is_name bs) (eq-eqb b 39 h.0) (name_bytes_suit bs n)

number_bytes_suit : (bytes : List ℕ) → HasForm kinds.Number bytes → is_within_limits kinds.Number bytes ≡ true → is_digits bytes ≡ true
number_bytes_suit [] h l = absurd h
number_bytes_suit (b ∷ bs) h l = and_from (nat_le (length (b ∷ bs)) 9) (list_all is_ascii_digit (b ∷ bs)) (and_parts (nat_le (length (b ∷ bs)) 9) _ l).0 h

bytes_suit : (kind : TokenKind) (bytes : List ℕ) → HasForm kind bytes → is_within_limits kind bytes ≡ true → suits kind bytes ≡ true
bytes_suit kinds.Name bytes h l = name_bytes_suit bytes (name_form bytes h l)
bytes_suit kinds.Tag bytes h l = tag_bytes_suit bytes h (tag_form bytes h l)
bytes_suit kinds.Number bytes h l = number_bytes_suit bytes h l
bytes_suit kinds.Word bytes h l = refl
bytes_suit kinds.Symbol bytes h l = refl

token_readable : (text : List ℕ) (t : Token) → IsTokenOf text t → is_readable text t ≡ true
unfolding is_readable
token_readable text t h =
    let some : t.from < t.to = h.nonempty in
    and_from (nat_le t.from t.to) (nat_le t.to (length text) && suits t.kind (bytes_of text t)) (le-leb t.from t.to (omega arith))
    (and_from (nat_le t.to (length text)) (suits t.kind (bytes_of text t)) (le-leb t.to (length text) h.within) (bytes_suit t.kind (bytes_of text t) h.form h.limits))

pub tokens_readable : (text : List ℕ) (tokens : List Token) → HasTokens text tokens → IsTrue (are_readable text tokens)
unfolding are_readable
tokens_readable text tokens cut = list_all-from_AllPass (is_readable text) tokens (λ k d h. token_readable text (slice_index_or tokens k d) (tokens_of_cut text (length text) tokens cut k d h))
