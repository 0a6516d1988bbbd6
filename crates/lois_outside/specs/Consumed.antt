-- How many bytes were taken before an error.
use Rattle.std.specs.Prelude.{◌≡◌, ℕ, ◌+◌, List, Option}
use Rattle.lois_outside.specs.declared.reading.ReadError.{ReadError}
use Rattle.lois_outside.specs.declared.reading.ReadError.TheVariants.{ReadFault, TooLong, NoMemory}
use Rattle.lois_outside.specs.Reading.{TookAtMost, TookExactly}

-- How many bytes an error has taken: one more than the limit where the input is too long, which is
-- the number that it names, and in every other case no more than the limit.
abbrev pub HasConsumed : ℕ → Option (List ℕ) → Option (List ℕ) → ReadError → Type 0
HasConsumed limit before after (TooLong n) = (n ≡ limit + 1) × TookExactly n before after
HasConsumed limit before after ReadFault = TookAtMost limit before after
HasConsumed limit before after NoMemory = TookAtMost limit before after
