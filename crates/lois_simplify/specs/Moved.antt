-- One level is moved to another place, and the levels above it go one down.
use Rattle.std.specs.Prelude.{ℕ, ◌-◌, ◌==◌, nat_lt, if◌then◌else◌}

abbrev pub moved : ℕ → ℕ → ℕ → ℕ
moved gone to i = if (i == gone) then to else (if (nat_lt gone i) then (i - 1) else i)
