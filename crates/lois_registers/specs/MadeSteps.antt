-- What is appended while an automaton is made.
use Rattle.std.specs.Prelude.{◌≡◌, List, ◌++◌, Option, Some, None}
use Rattle.lois_base.specs.Data.{CompD}
use Rattle.lois_base.specs.declared.guards.Lit.{Lit}
use Rattle.lois_registers.specs.Placed.{AreMade}

-- what is made of the wanted comprehensions was appended
abbrev pub AddsMade : List CompD → List CompD → List CompD → Type 0
AddsMade wanted old new = (made : List CompD) × (new ≡ old ++ made) × AreMade wanted made

-- the literals, and others behind them if there are some
abbrev pub joined_literals : List Lit → Option (List Lit) → Option (List Lit)
joined_literals before None = None
joined_literals before (Some ls) = Some (before ++ ls)
