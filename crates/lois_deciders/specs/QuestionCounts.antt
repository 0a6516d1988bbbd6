-- Counts of questions, before and after.
use Rattle.std.specs.Prelude.{◌≡◌, ℕ, ◌-◌, ◌<◌, ◌≤◌, ◌^◌, ◌⊎◌}

-- a count of questions after at least one more, unless it stands at the greatest u64
abbrev pub HasRisen : ℕ → ℕ → Type 0
HasRisen before after = (before < after) ⊎ (after ≡ 2 ^ 64 - 1)

-- a count of questions, which a u64 has room for, is no lower afterwards, and the same is true of it then
abbrev pub IsNoLower : ℕ → ℕ → Type 0
IsNoLower before after = before < 2 ^ 64 → (before ≤ after) × (after < 2 ^ 64)
