-- A text that is cut up to a place, and what stands there.
use Rattle.std.proofs.Common.{ℕ, ◌+◌, ◌-◌, ◌<◌, ◌≤◌, List, [], ◌∷◌, ◌++◌, length, take, drop, subst, arith, length-take, length-drop}
use Rattle.std.specs.Prelude.{IsTrue}
use Rattle.lois_lexer.specs.declared.TokenKind.{TokenKind}
use Rattle.lois_lexer.specs.declared.Token.{Token}
use Rattle.lois_lexer.specs.Forms.{is_within_limits}
use Rattle.lois_lexer.specs.Tokens.{Longest, IsTrivia, IsCut}
use Rattle.lois_lexer.specs.Tokens.IsTrivia.{one_blank, one_comment}
use Rattle.lois_lexer.specs.Tokens.IsCut.{past_gap, past_token}
use Rattle.lois_lexer.proofs.Forms.{form_nonempty}
use Rattle.lois_lexer.proofs.Slices.{rest_is}

-- a gap and a token have at least one byte, and lie within
pub gap_positive : (bytes : List ℕ) (n : ℕ) → IsTrivia bytes n → 0 < n
gap_positive bytes n (one_blank nonempty blank) = omega arith
gap_positive bytes n (one_comment m comment) = comment.mark.0

pub gap_within : (bytes : List ℕ) (n : ℕ) → IsTrivia bytes n → n ≤ length bytes
gap_within bytes n (one_blank nonempty blank) = nonempty
gap_within bytes n (one_comment m comment) = comment.within

pub token_positive : (bytes : List ℕ) (kind : TokenKind) (n : ℕ) → Longest bytes kind n → 0 < n
token_positive bytes kind n token = let nonempty = form_nonempty kind (take n bytes) token.form in omega (arith, length-take n bytes)

abbrev pub rest_of : List ℕ → ℕ → List ℕ
rest_of text at = take (length text - at) (drop at text)

module _ (text : List ℕ) (at : ℕ) (tokens : List Token) (inside : at ≤ length text) (cut : IsCut text at tokens) where
  pub cut_gap : (n : ℕ) → IsTrivia (rest_of text at) n → (at + n ≤ length text) × IsCut text (at + n) tokens
  cut_gap n gap =
      let here : IsTrivia (drop at text) n = subst (λ bytes. IsTrivia bytes n) (rest_is at text) gap in
      (omega (arith, gap_within (drop at text) n here, length-drop at text), past_gap at n tokens cut here)

  pub cut_token : (kind : TokenKind) (n : ℕ) → Longest (rest_of text at) kind n → IsTrue (is_within_limits kind (take n (rest_of text at))) →
      (at + n ≤ length text) × IsCut text (at + n) (tokens ++ record { kind = kind; from = at; to = at + n } ∷ [])
  cut_token kind n token limits =
      let here : Longest (drop at text) kind n = subst (λ bytes. Longest bytes kind n) (rest_is at text) token in
      (omega (arith, here.within, length-drop at text), past_token at n kind tokens cut here (subst (λ bytes. IsTrue (is_within_limits kind (take n bytes))) (rest_is at text) limits))
