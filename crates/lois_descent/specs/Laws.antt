-- Laws of the grammar and of the descent.
use Rattle.std.specs.Prelude.{◌≡◌, ℕ, List, length, Result, Ok, Err}
use Rattle.lois_lexer.specs.declared.Token.{Token}
use Rattle.lois_lexer.specs.Tokens.{HasTokens}
use Rattle.lois_script.specs.Tree.{ScriptD}
use Rattle.lois_script.specs.Grammar.{PlacedToken, SpellsScript}
use Rattle.lois_script.specs.Limits.{Spells, IsNestedWithin, StmtsAreWithin}
use Rattle.lois_descent.specs.Descent as descent
use Rattle.lois_descent.specs.Reading.{refusal_of}
use Rattle.lois_descent.specs.Refusals.{Refusal, Refused, tokens_in}
use Rattle.lois_descent.specs.declared.parse_error.ParseError.{ParseError}
use Rattle.lois_descent.specs.declared.parse_error.ParseError.TheVariants as parse_errors

-- a list of tokens is that of at most one script
abbrev pub OneScript : Type 0
OneScript = (tokens : List PlacedToken) (s t : ScriptD) → SpellsScript s tokens → SpellsScript t tokens → s ≡ t

-- and so is a text
abbrev pub OneScriptOfText : Type 0
OneScriptOfText = (text : List ℕ) (s t : ScriptD) → Spells text s → Spells text t → s ≡ t

-- tokens are refused at one place and for one reason at most
abbrev pub OneRefusal : Type 0
OneRefusal = (tokens : List PlacedToken) (this that : Refusal) → Refused tokens this → Refused tokens that → this ≡ that

-- a text that spells a script within the limits isn't refused
abbrev pub NeverBoth : Type 0
NeverBoth = (text : List ℕ) (tokens : List Token) (s : ScriptD) (refusal : Refusal) →
    HasTokens text tokens → Spells text s → Refused (tokens_in text tokens) refusal → ⊥

-- What the descent gives for all the tokens: a script that they spell, within the limits; or how they are refused.
abbrev pub IsCorrectResult : List PlacedToken → Result ScriptD ParseError → Type 0
IsCorrectResult tokens (Ok s) = SpellsScript s tokens × IsNestedWithin 0 tokens × StmtsAreWithin s.body
IsCorrectResult tokens (Err e) = (e ≡ parse_errors.NoMemory → ⊥) × Refused tokens (refusal_of (length tokens) e)

-- the descent judges all tokens rightly
abbrev pub DescentIsCorrect : Type 0
DescentIsCorrect = (tokens : List PlacedToken) → IsCorrectResult tokens (descent.script tokens)
