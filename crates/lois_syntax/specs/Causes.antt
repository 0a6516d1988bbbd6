-- The number and the words of each cause of a refusal, and which error a halt of the reader is.
use Rattle.std.specs.Prelude.{ℕ, ◌-◌, List, codes}
use Rattle.lois_descent.specs.declared.parse_error.ParseError.{ParseError}
use Rattle.lois_descent.specs.declared.parse_error.ParseError.TheVariants as parse_errors
use Rattle.lois_syntax.specs.declared.SyntaxError.{SyntaxError}
use Rattle.lois_syntax.specs.declared.SyntaxError.TheVariants.{NoScript, TooNested, WideTuple, TurnsTooMany, NoMemory}

-- counted from 1 as the causes are declared
abbrev pub cause_number : SyntaxError → ℕ
cause_number (NoScript at) = 1
cause_number (TooNested at) = 2
cause_number (WideTuple at) = 3
cause_number (TurnsTooMany at) = 4
cause_number NoMemory = 5

abbrev pub cause_text : SyntaxError → List ℕ
cause_text (NoScript at) = codes "not a script"
cause_text (TooNested at) = codes "nesting over 64"
cause_text (WideTuple at) = codes "tuple over 8"
cause_text (TurnsTooMany at) = codes "turns over 1000000"
cause_text NoMemory = codes "out of memory"

-- the error that a halt is, where there are so many tokens
abbrev pub error_of : ℕ → ParseError → SyntaxError
error_of count (parse_errors.NoScript left) = NoScript (count - left)
error_of count (parse_errors.TooNested left) = TooNested (count - left)
error_of count (parse_errors.WideTuple left) = WideTuple (count - left)
error_of count (parse_errors.TurnsTooMany left) = TurnsTooMany (count - left)
error_of count parse_errors.NoMemory = NoMemory
