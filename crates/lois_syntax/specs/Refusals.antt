-- Where the tokens of a text are refused as a script, and for what.
use Rattle.std.specs.Prelude.{List}
use Rattle.lois_script.specs.Grammar.{PlacedToken}
use Rattle.lois_descent.specs.Refusals as refusals
use Rattle.lois_descent.specs.Refusals.{Refusal, Refused}
pub use Rattle.lois_descent.specs.Refusals.{IsNoScriptAt, open_behind, Limit, nesting, parts, turns, GoesOver, BreaksLimit, tokens_in}
use Rattle.lois_syntax.specs.declared.SyntaxError.{SyntaxError}
use Rattle.lois_syntax.specs.declared.SyntaxError.TheVariants.{NoScript, TooNested, WideTuple, TurnsTooMany, NoMemory}

-- what the error says of the tokens
abbrev pub refusal : SyntaxError → Refusal
refusal (NoScript k) = refusals.NoScript k
refusal (TooNested k) = refusals.TooNested k
refusal (WideTuple k) = refusals.WideTuple k
refusal (TurnsTooMany k) = refusals.TurnsTooMany k
refusal NoMemory = refusals.NoMemory

-- The tokens are refused so.
abbrev pub IsSyntaxRefusal : List PlacedToken → SyntaxError → Type 0
IsSyntaxRefusal tokens error = Refused tokens (refusal error)
