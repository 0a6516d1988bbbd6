-- Runs of calls of a source or a sink, whatever it tells of its bytes.
use Rattle.std.specs.Prelude.{ℕ, ◌+◌, ◌≤◌, List, [], ◌++◌, length, Option, Some}

-- Calls of `take` lead from a source to a source and gave these bytes, and no call asked for more
-- than was left of `most` bytes in all. `takes s asked gave t` is one call: a slice of `asked` bytes.
pub data TakesPieces {S : Type 0} (takes : S → ℕ → Option (List ℕ) → S → Type 0) (most : ℕ) (from : S) : List ℕ → S → Type 0 where
  no_take : TakesPieces takes most from [] from
  one_more_take : (bytes piece : List ℕ) (asked : ℕ) (mid to : S) → TakesPieces takes most from bytes mid → length bytes + asked ≤ most
      → takes mid asked (Some piece) to → TakesPieces takes most from (bytes ++ piece) to
