-- Laws of the grammar.
use Rattle.std.specs.Prelude.{◌≡◌, ℕ, List}
use Rattle.lois_lexer.specs.declared.Token.{Token}
use Rattle.lois_lexer.specs.Tokens.{HasTokens}
use Rattle.lois_script.specs.Tree.{ScriptD}
use Rattle.lois_script.specs.Grammar.{PlacedToken}
use Rattle.lois_script.specs.Limits.{Spells}
pub use Rattle.lois_descent.specs.Laws.{OneScript, OneScriptOfText}
use Rattle.lois_syntax.specs.Refusals.{IsSyntaxRefusal, tokens_in}
use Rattle.lois_syntax.specs.declared.SyntaxError.{SyntaxError}

-- tokens are refused at one place and for one reason at most
abbrev pub OneRefusal : Type 0
OneRefusal = (tokens : List PlacedToken) (this that : SyntaxError) → IsSyntaxRefusal tokens this → IsSyntaxRefusal tokens that → this ≡ that

-- a text that spells a script within the limits isn't refused
abbrev pub NeverBoth : Type 0
NeverBoth = (text : List ℕ) (tokens : List Token) (s : ScriptD) (error : SyntaxError) →
    HasTokens text tokens → Spells text s → IsSyntaxRefusal (tokens_in text tokens) error → ⊥
