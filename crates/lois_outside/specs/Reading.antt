-- What reading to the end of the input answers, and what it took before it gave up.
use Rattle.std.specs.Prelude.{◌≡◌, ℕ, ◌+◌, ◌<◌, ◌≤◌, List, [], length, Option, Some, None}
use Rattle.std.specs.Io.KnownBytes.{Consumes}
use Rattle.lois_outside.specs.Calls.{TakesPieces}
use Rattle.lois_outside.specs.declared.reading.ReadError.{ReadError}
use Rattle.lois_outside.specs.declared.reading.ReadError.TheVariants.{ReadFault, TooLong, NoMemory}

-- at most this many bytes are gone from the front of those that were left
abbrev pub TookAtMost : ℕ → Option (List ℕ) → Option (List ℕ) → Type 0
TookAtMost most before after = (bytes : List ℕ) × Consumes before after bytes × (length bytes ≤ most)

-- exactly this many bytes are gone from the front of those that were left
abbrev pub TookExactly : ℕ → Option (List ℕ) → Option (List ℕ) → Type 0
TookExactly count before after = (bytes : List ℕ) × Consumes before after bytes × (length bytes ≡ count)

-- calls that gave these bytes, within this many in all, and then one that asked for a byte and was given none
abbrev pub ReadsToEnd : {S : Type 0} → (S → ℕ → Option (List ℕ) → S → Type 0) → ℕ → S → List ℕ → S → Type 0
ReadsToEnd {S} takes most from bytes to =
    (mid : S) × (asked : ℕ) × TakesPieces takes most from bytes mid × (length bytes + asked ≤ most) × (0 < asked) × takes mid asked (Some []) to

-- The calls before an error. Too long: they gave one byte more than the limit. A fault: the last one
-- failed. Want of memory: none failed.
abbrev pub GivesUp : {S : Type 0} → (S → ℕ → Option (List ℕ) → S → Type 0) → ℕ → S → ReadError → S → Type 0
GivesUp takes limit from (TooLong n) to =
    (bytes : List ℕ) × TakesPieces takes (limit + 1) from bytes to × (length bytes ≡ limit + 1)
GivesUp {S} takes limit from ReadFault to =
    (bytes : List ℕ) × (mid : S) × (asked : ℕ) × TakesPieces takes (limit + 1) from bytes mid × (length bytes ≤ limit) × (length bytes + asked ≤ limit + 1) × takes mid asked None to
GivesUp takes limit from NoMemory to =
    (bytes : List ℕ) × TakesPieces takes (limit + 1) from bytes to × (length bytes ≤ limit)
