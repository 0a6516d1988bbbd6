-- What writing has appended where it failed.
use Rattle.std.specs.Prelude.{ℕ, ◌<◌, List, length, take, Option, None, drop, Some}
use Rattle.std.specs.Io.KnownBytes.{Appends}

-- the bytes grew by a first part of these that isn't all of them
abbrev pub AppendsProperPrefix : Option (List ℕ) → Option (List ℕ) → List ℕ → Type 0
AppendsProperPrefix before after bytes = (count : ℕ) × (count < length bytes) × Appends before after (take count bytes)

-- Calls of `put` lead from a sink to a sink, each was handed all the bytes that weren't appended yet,
-- and `rest` isn't appended now. `puts s piece taken t` is one call: how many bytes of the piece it took.
pub data Writes {K : Type 0} (puts : K → List ℕ → Option ℕ → K → Type 0) (from : K) (bytes : List ℕ) : List ℕ → K → Type 0 where
  no_put : Writes puts from bytes bytes from
  one_more_put : (rest : List ℕ) (taken : ℕ) (mid to : K) → Writes puts from bytes rest mid
      → puts mid rest (Some taken) to → Writes puts from bytes (drop taken rest) to

-- calls of `put` that each were handed all the bytes that weren't appended yet, the last of which failed
abbrev pub FailsWriting : {K : Type 0} → (K → List ℕ → Option ℕ → K → Type 0) → K → List ℕ → K → Type 0
FailsWriting {K} puts from bytes to =
    (rest : List ℕ) × (mid : K) × Writes puts from bytes rest mid × (0 < length rest) × puts mid rest None to
