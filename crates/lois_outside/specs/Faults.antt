-- Counts of faults.
use Rattle.std.specs.Prelude.{◌≡◌, ℕ, ◌+◌, ◌-◌, ◌^◌, ◌<◌, ◌⊎◌, min}

-- the greatest number that a count can reach: there it stands still
abbrev pub greatest_count : ℕ
greatest_count = 2 ^ 64 - 1

-- the count after one more
abbrev pub next_count : ℕ → ℕ
next_count count = min (count + 1) greatest_count

-- the count rose, or stands at its greatest
abbrev pub Rose : ℕ → ℕ → Type 0
Rose before after = (before < after) ⊎ (after ≡ greatest_count)
