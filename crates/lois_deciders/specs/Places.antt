-- Numbers that make room for another one.
use Rattle.std.specs.Prelude.{ℕ, ◌+◌, nat_lt, if◌then◌else◌}

-- numbers below m stay, and the others are raised by one
abbrev pub raised_from : ℕ → ℕ → ℕ
raised_from m i = if nat_lt i m then i else (i + 1)
