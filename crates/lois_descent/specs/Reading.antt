-- What a function of the reader returned, set against the descent.
use Rattle.std.specs.Prelude.{◌≡◌, ℕ, ◌-◌, Result, Ok, Err}
use Rattle.lois_descent.specs.declared.parse_error.ParseError.{ParseError}
use Rattle.lois_descent.specs.Refusals.{Refusal}
use Rattle.lois_descent.specs.Refusals as errors
use Rattle.lois_descent.specs.declared.parse_error.ParseError.TheVariants.{NoScript, TooNested, WideTuple, TurnsTooMany, NoMemory}

-- want of memory says nothing of the tokens
abbrev pub ErrorIs : {Y : Type 0} → ParseError → Result Y ParseError → Type 0
ErrorIs NoMemory read = Unit {0}
ErrorIs (NoScript left) read = read ≡ Err (NoScript left)
ErrorIs (TooNested left) read = read ≡ Err (TooNested left)
ErrorIs (WideTuple left) read = read ≡ Err (WideTuple left)
ErrorIs (TurnsTooMany left) read = read ≡ Err (TurnsTooMany left)

-- what was returned, seen by view, is what the descent gives
abbrev pub ResultIs : {X Y : Type 0} → (X → Y) → Result X ParseError → Result Y ParseError → Type 0
ResultIs view (Ok x) read = read ≡ Ok (view x)
ResultIs view (Err e) read = ErrorIs e read

-- the refusal that a parse error is, where there are so many tokens
abbrev pub refusal_of : ℕ → ParseError → Refusal
refusal_of count (NoScript left) = errors.NoScript (count - left)
refusal_of count (TooNested left) = errors.TooNested (count - left)
refusal_of count (WideTuple left) = errors.WideTuple (count - left)
refusal_of count (TurnsTooMany left) = errors.TurnsTooMany (count - left)
refusal_of count NoMemory = errors.NoMemory
