-- Laws of the definitions.
use Rattle.std.specs.Prelude.{◌≡◌, ℕ, List, [], ◌∷◌, ◌++◌, map, IsTrue, All}
use Rattle.std.specs.List.{flat_map}
use Rattle.lois_lexer.specs.declared.Token.{Token}
use Rattle.lois_lexer.specs.declared.LexError.{LexError}
use Rattle.lois_lexer.specs.Bytes.{is_blank}
use Rattle.lois_lexer.specs.Forms.{HasForm, is_within_limits}
use Rattle.lois_lexer.specs.Tokens.{HasTokens}
use Rattle.lois_lexer.specs.SpelledTokens.{Spelled, spelled}
use Rattle.lois_lexer.specs.Refusals.{IsLexicalRefusal}

-- a text has at most one list of tokens
abbrev pub OneList : Type 0
OneList = (text : List ℕ) (these those : List Token) → HasTokens text these → HasTokens text those → these ≡ those

-- a text is refused at one place and for one reason at most
abbrev pub OneRefusal : Type 0
OneRefusal = (text : List ℕ) (this that : LexError) → IsLexicalRefusal text this → IsLexicalRefusal text that → this ≡ that

-- a text that is refused has no tokens
abbrev pub NeverBoth : Type 0
NeverBoth = (text : List ℕ) (tokens : List Token) (error : LexError) → HasTokens text tokens → IsLexicalRefusal text error → ⊥

-- a token and the blank that is written behind it
pub record Written : Type 0 where
  pub token : Spelled
  pub blank : ℕ

pub record IsWritten (w : Written) : Type 0 where
  pub form : HasForm w.token.kind w.token.bytes
  pub limits : IsTrue (is_within_limits w.token.kind w.token.bytes)
  pub blank : IsTrue (is_blank w.blank)

abbrev pub text_of : Written → List ℕ
text_of w = w.token.bytes ++ w.blank ∷ []

-- Tokens that are written with a blank behind each are read again.
abbrev pub WrittenIsRead : Type 0
WrittenIsRead = (ws : List Written) → All IsWritten ws →
    (tokens : List Token) × HasTokens (flat_map text_of ws) tokens × (spelled (flat_map text_of ws) tokens ≡ map (λ (w : Written). w.token) ws)
