-- A cube that may be missing.
use Rattle.std.specs.Prelude.{Bool, false, List}
use Rattle.std.specs.declared.option.Option.{Option}
use Rattle.std.specs.declared.option.Option.TheVariants.{Some, None}
use Rattle.lois_base.specs.Atom.{Atom}
use Rattle.lois_base.specs.Truth.{cube_holds}
use Rattle.lois_base.specs.declared.guards.Lit.{Lit}
use Rattle.lois_constraint.specs.Rules.{Rule, CubeObeys}

-- a cube that isn't there holds nowhere
abbrev pub some_holds : List Atom → Option (List Lit) → Bool
some_holds c None = false
some_holds c (Some k) = cube_holds c k

-- where the cube is there, it obeys the rule
abbrev pub SomeObeys : Rule → Option (List Lit) → Type 0
SomeObeys rule None = Unit {0}
SomeObeys rule (Some k) = CubeObeys rule k
