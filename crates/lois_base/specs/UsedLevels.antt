-- What uses only levels that a constraint uses.
use Rattle.std.specs.Prelude.{List}
use Rattle.std.specs.List.{All}
use Rattle.lois_base.specs.declared.guards.Lit.{Lit}
use Rattle.lois_base.specs.Normal.{GuardUses}

-- a literal, a cube, a constraint uses only levels that the constraint g uses
abbrev pub LitUsesOnly : List (List Lit) → Lit → Type 0
LitUsesOnly g l = GuardUses l.left g × GuardUses l.right g

abbrev pub CubeUsesOnly : List (List Lit) → List Lit → Type 0
CubeUsesOnly g = All (LitUsesOnly g)

abbrev pub UsesOnly : List (List Lit) → List (List Lit) → Type 0
UsesOnly g = All (CubeUsesOnly g)
