-- Calls of a source.
use Rattle.std.specs.Prelude.{ℕ, List, Option}

-- one call of a source: how many bytes it asked for, and what it was given, or `None` where it failed
abbrev pub TakeRelation : Type 0 → Type 1
TakeRelation S = S → ℕ → Option (List ℕ) → S → Type 0
