-- What the parts of a line keep.
use Rattle.std.specs.Prelude.{ℕ, ◌≤◌, Bool, List, length}
use Rattle.std.specs.List.{All}
use Rattle.lois_base.specs.declared.guards.Lit.{Lit}
use Rattle.lois_registers.specs.Valid.{IsLiteral}

abbrev pub IsCount : ℕ → Type 0
IsCount k = (1 ≤ k) × (k ≤ 4)

-- at least one literal
pub record AreLiterals (ordered : Bool) (k : ℕ) (ls : List Lit) : Type 0 where
  pub some : 1 ≤ length ls
  pub literals : All (IsLiteral ordered k) ls
