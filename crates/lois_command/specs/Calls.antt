-- What the calls of a source gave, and what those of a sink took.
use Rattle.std.specs.Prelude.{◌≡◌, ◌+◌, ◌≤◌, ◌⊎◌, ℕ, List, [], length, Option, None}
use Rattle.std.specs.Io.KnownBytes.{Appends}
use Rattle.lois_base.specs.declared.limits.TheConstants.{LONGEST_TEXT}
use Rattle.lois_outside.specs.Calls.{TakesPieces}
use Rattle.lois_outside.specs.Writing.{Writes, AppendsProperPrefix, FailsWriting}
use Rattle.lois_outside.specs.Faults.{Rose}
use Rattle.lois_outside.specs.Reading.{TookAtMost}
use Rattle.lois_command.specs.Sources.{TakeRelation}

-- calls that gave these bytes, within one more than the limit in all, of which the last one may have failed
abbrev pub Gave : {S : Type 0} → TakeRelation S → ℕ → S → List ℕ → S → Type 0
Gave {S} takes limit from bytes to =
    TakesPieces takes (limit + 1) from bytes to ⊎
    ((mid : S) × (asked : ℕ) × TakesPieces takes (limit + 1) from bytes mid × takes mid asked None to)

-- under a limit the source has given at most so many bytes, by its calls and by what it has left
pub record GaveUnder {S : Type 0} (left : S → Option (List ℕ)) (takes : TakeRelation S) (limit most : ℕ) (from to : S) : Type 0 where
  pub bytes : List ℕ
  pub calls : Gave takes limit from bytes to
  pub few : length bytes ≤ most
  pub taken : TookAtMost most (left from) (left to)

-- so under the limit of one text
abbrev pub GaveAtMost : {S : Type 0} → (S → Option (List ℕ)) → TakeRelation S → ℕ → S → S → Type 0
GaveAtMost {S} left takes most from to = GaveUnder left takes LONGEST_TEXT most from to

-- one call of a sink: the piece that it was handed, and how many of its bytes it took, or `None` where it failed
abbrev pub Puts : Type 0 → Type 1
Puts K = K → List ℕ → Option ℕ → K → Type 0

-- The status is the usual one, and the sink has the text whole; or it is 7, the sink's count of faults rose, and the sink
-- has a first part of the text, but not all of it. The same of the calls, where the sink doesn't tell what it holds.
abbrev pub TextIsWritten : {K : Type 0} → (K → Option (List ℕ)) → (K → ℕ) → Puts K → K → K → List ℕ → ℕ → ℕ → Type 0
TextIsWritten {K} held faults puts from to text usual status =
    ((status ≡ usual) × Appends (held from) (held to) text × Writes puts from text [] to) ⊎
    ((status ≡ 7) × Rose (faults from) (faults to) × AppendsProperPrefix (held from) (held to) text × FailsWriting puts from text to)
