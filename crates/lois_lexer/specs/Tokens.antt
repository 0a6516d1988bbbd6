-- Which tokens a text has.
use Rattle.std.specs.Prelude.{◌≡◌, ℕ, ◌+◌, ◌<◌, ◌≤◌, ◌⊎◌, List, [], ◌∷◌, ◌++◌, length, take, drop, slice_index, slice_range, IsTrue}
use Rattle.std.specs.List.{list_all}
use Rattle.lois_lexer.specs.declared.TokenKind.{TokenKind}
use Rattle.lois_lexer.specs.declared.Token.{Token}
use Rattle.lois_lexer.specs.Bytes.{is_blank, is_comment_byte}
use Rattle.lois_lexer.specs.Forms.{HasForm, is_within_limits}

-- The longest token at the front of the bytes is of this kind, and n bytes long.
pub record Longest (bytes : List ℕ) (kind : TokenKind) (n : ℕ) : Type 0 where
  pub within : n ≤ length bytes
  pub form : HasForm kind (take n bytes)
  pub longest : (other : TokenKind) (m : ℕ) → n < m → m ≤ length bytes → HasForm other (take m bytes) → ⊥

-- The first n bytes are a comment: from `#` to the byte before the next LF (10), or to the end.
pub record IsComment (bytes : List ℕ) (n : ℕ) : Type 0 where
  pub within : n ≤ length bytes
  pub mark : 0 < n × (slice_index bytes 0 ≡ 35)
  pub inside : IsTrue (list_all is_comment_byte (take n bytes))
  pub end : (n ≡ length bytes) ⊎ (slice_index bytes n ≡ 10)

-- What stands between tokens: a blank, or a comment.
pub data IsTrivia (bytes : List ℕ) : ℕ → Type 0 where
  one_blank : 0 < length bytes → IsTrue (is_blank (slice_index bytes 0)) → IsTrivia bytes 1
  one_comment : (n : ℕ) → IsComment bytes n → IsTrivia bytes n

-- Up to a place the text is cut into blanks, comments and the tokens, each token the longest at its place
-- and within the limits.
pub data IsCut (text : List ℕ) : ℕ → List Token → Type 0 where
  at_start : IsCut text 0 []
  past_gap : (from n : ℕ) (tokens : List Token) → IsCut text from tokens → IsTrivia (drop from text) n → IsCut text (from + n) tokens
  past_token : (from n : ℕ) (kind : TokenKind) (tokens : List Token) → IsCut text from tokens → Longest (drop from text) kind n →
      IsTrue (is_within_limits kind (take n (drop from text))) →
      IsCut text (from + n) (tokens ++ record { kind = kind; from = from; to = from + n } ∷ [])

-- The tokens of a text, in order.
abbrev pub HasTokens : List ℕ → List Token → Type 0
HasTokens text tokens = IsCut text (length text) tokens

-- the bytes of a token
abbrev pub bytes_of : List ℕ → Token → List ℕ
bytes_of text token = slice_range text token.from token.to
