-- Tokens without their places.
use Rattle.std.specs.Prelude.{ℕ, List, map}
use Rattle.lois_lexer.specs.declared.TokenKind.{TokenKind}
use Rattle.lois_lexer.specs.declared.Token.{Token}
use Rattle.lois_lexer.specs.Tokens.{bytes_of}

-- A token without its place: what a grammar is about.
pub record Spelled : Type 0 where
  pub kind : TokenKind
  pub bytes : List ℕ

-- the tokens of a text without their places
abbrev pub spelled : List ℕ → List Token → List Spelled
spelled text tokens = map (λ (t : Token). record { kind = t.kind; bytes = bytes_of text t }) tokens
