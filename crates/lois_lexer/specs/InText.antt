-- Where tokens and refusals lie in a text.
use Rattle.std.specs.Prelude.{ℕ, ◌<◌, ◌≤◌, List, length, IsTrue}
use Rattle.std.specs.List.{AllAdjacentBelow}
use Rattle.lois_lexer.specs.declared.Token.{Token}
use Rattle.lois_lexer.specs.Forms.{HasForm, is_within_limits}
use Rattle.lois_lexer.specs.Tokens.{bytes_of}
use Rattle.lois_lexer.specs.declared.LexError.{LexError}
use Rattle.lois_lexer.specs.declared.LexError.TheVariants.{BadByte, LongName, BadNumber, NoMemory}

-- a token lies in the text, and has the form of its kind within the limits
pub record IsTokenOf (text : List ℕ) (token : Token) : Type 0 where
  pub nonempty : token.from < token.to
  pub within : token.to ≤ length text
  pub form : HasForm token.kind (bytes_of text token)
  pub limits : IsTrue (is_within_limits token.kind (bytes_of text token))

-- each token ends before the next begins
abbrev pub AreInOrder : List Token → Type 0
AreInOrder tokens = AllAdjacentBelow (λ (t : Token) (u : Token). t.to ≤ u.from) tokens (length tokens)

-- the place of a refusal is a byte of the text
abbrev pub IsPlaceInText : List ℕ → LexError → Type 0
IsPlaceInText text (BadByte at) = at < length text
IsPlaceInText text (LongName at) = at < length text
IsPlaceInText text (BadNumber at) = at < length text
IsPlaceInText text NoMemory = Unit {0}
