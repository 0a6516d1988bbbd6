-- The source and the sink over memory, as contracts see them.
use Rattle.std.specs.Prelude.{◌≡◌, ◌≢◌, ℕ, ◌-◌, ◌⊎◌, min, List, [], ◌++◌, length, take, drop, Contains}
use Rattle.lois_outside.specs.Faults.{next_count}

-- what is left, the most that a call gives, the numbers of the calls that fail, and how many calls and faults there were
pub record SourceState : Type 0 where
  pub left : List ℕ
  pub step : ℕ
  pub failing : List ℕ
  pub calls : ℕ
  pub faults : ℕ

-- what it holds, how much it may hold, the most that a call takes, the numbers of the calls that fail, and how many calls and faults there were
pub record SinkState : Type 0 where
  pub held : List ℕ
  pub room : ℕ
  pub step : ℕ
  pub failing : List ℕ
  pub calls : ℕ
  pub faults : ℕ

-- the next call fails: its number is listed
abbrev pub FailsNext : SourceState → Type 0
FailsNext s = Contains s.failing s.calls

-- how many bytes the next call gives into a slice of this length, if it doesn't fail
abbrev pub given_count : SourceState → ℕ → ℕ
given_count s asked = min (min s.step asked) (length s.left)

-- the source after a call that gave this many bytes
abbrev pub after_take : SourceState → ℕ → SourceState
after_take s n = record s { left = drop n s.left; calls = next_count s.calls }

-- the source after a call that failed
abbrev pub after_failed_take : SourceState → SourceState
after_failed_take s = record s { calls = next_count s.calls; faults = next_count s.faults }

-- the next call fails: its number is listed, or no room is left for a piece that isn't empty
abbrev pub RefusesNext : SinkState → List ℕ → Type 0
RefusesNext k piece = Contains k.failing k.calls ⊎ ((piece ≢ []) × (length k.held ≡ k.room))

-- how many bytes of this piece the next call takes, if it doesn't fail
abbrev pub taken_count : SinkState → List ℕ → ℕ
taken_count k piece = min (min k.step (length piece)) (k.room - length k.held)

-- the sink after a call that took this many bytes of the piece
abbrev pub after_put : SinkState → List ℕ → ℕ → SinkState
after_put k piece n = record k { held = k.held ++ take n piece; calls = next_count k.calls }

-- the sink after a call that failed
abbrev pub after_failed_put : SinkState → SinkState
after_failed_put k = record k { calls = next_count k.calls; faults = next_count k.faults }
