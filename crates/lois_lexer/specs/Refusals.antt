-- Where a text is refused. Before the place the text is cut whole, so it is the first such place.
use Rattle.std.specs.Prelude.{◌≡◌, ℕ, ◌+◌, ◌<◌, ◌≢◌, List, length, take, drop, slice_index, IsTrue, IsFalse}
use Rattle.std.specs.List.{list_all}
use Rattle.lois_lexer.specs.declared.TokenKind.{TokenKind}
use Rattle.lois_lexer.specs.declared.TokenKind.TheVariants.{Number}
use Rattle.lois_lexer.specs.declared.Token.{Token}
use Rattle.lois_lexer.specs.declared.LexError.{LexError}
use Rattle.lois_lexer.specs.declared.LexError.TheVariants.{BadByte, LongName, BadNumber}
use Rattle.lois_lexer.specs.Bytes.{is_blank, is_comment_byte}
use Rattle.lois_lexer.specs.Forms.{HasForm, is_within_limits}
use Rattle.lois_lexer.specs.Tokens.{Longest, IsCut}

-- The first byte begins no token, and no blank or comment.
pub record BeginsNothing (bytes : List ℕ) : Type 0 where
  pub nonempty : 0 < length bytes
  pub no_blank : IsFalse (is_blank (slice_index bytes 0))
  pub no_comment : slice_index bytes 0 ≢ 35
  pub no_token : (kind : TokenKind) (n : ℕ) → HasForm kind (take n bytes) → ⊥

-- The bytes begin with a comment, and byte n is the first in it that may not stand in one.
pub record BreaksComment (bytes : List ℕ) (n : ℕ) : Type 0 where
  pub within : n < length bytes
  pub mark : slice_index bytes 0 ≡ 35
  pub inside : IsTrue (list_all is_comment_byte (take n bytes))
  pub no_end : slice_index bytes n ≢ 10
  pub bad : IsFalse (is_comment_byte (slice_index bytes n))

-- The longest token at the front of the bytes is of this kind, and over its limit.
abbrev pub IsOverLimit : List ℕ → TokenKind → Type 0
IsOverLimit bytes kind = (n : ℕ) × Longest bytes kind n × IsFalse (is_within_limits kind (take n bytes))

-- What is wrong where the text goes on with the bytes from a place on.
pub data IsWrongAt (at : ℕ) (bytes : List ℕ) : LexError → Type 0 where
  bad_byte : BeginsNothing bytes → IsWrongAt at bytes (BadByte at)
  bad_comment : (n : ℕ) → BreaksComment bytes n → IsWrongAt at bytes (BadByte (at + n))
  long_name : (kind : TokenKind) → kind ≢ Number → IsOverLimit bytes kind → IsWrongAt at bytes (LongName at)
  bad_number : IsOverLimit bytes Number → IsWrongAt at bytes (BadNumber at)

-- The text is refused so.
abbrev pub IsLexicalRefusal : List ℕ → LexError → Type 0
IsLexicalRefusal text error = (at : ℕ) × (tokens : List Token) × IsCut text at tokens × IsWrongAt at (drop at text) error
