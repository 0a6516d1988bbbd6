-- Where reading stops, and that it is the one place.
use Rattle.std.specs.Prelude.{◌≡◌, ℕ, List, length}
use Rattle.lois_registers.specs.declared.RegistersError.{RegistersError}
use Rattle.lois_registers.specs.declared.RegistersError.TheVariants.{NotRegisters, NoMemory as OutOfMemory}
use Rattle.lois_registers.specs.declared.parse_error.ParseError.{ParseError}
use Rattle.lois_registers.specs.declared.parse_error.ParseError.TheVariants.{Left, NoMemory}
use Rattle.lois_registers.specs.Places.{BreaksAt, IsFaultPlace}

-- no other offset is
abbrev pub IsOnlyPlace : List ℕ → RegistersError → Type 0
IsOnlyPlace text (NotRegisters at) = (other : ℕ) → IsFaultPlace text (NotRegisters other) → other ≡ at
IsOnlyPlace text OutOfMemory = Unit {0}

-- the same by how many bytes are left
abbrev pub StopsIn : List ℕ → ParseError → Type 0
StopsIn text (Left n) = (lines : List (List (List ℕ))) × (rest : List ℕ) × BreaksAt text lines rest × (n ≡ length rest)
StopsIn text NoMemory = Unit {0}
