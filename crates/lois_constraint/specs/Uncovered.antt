-- Cubes that none of several others contains.
use Rattle.std.specs.Prelude.{List}
use Rattle.std.specs.List.{All}
use Rattle.lois_base.specs.declared.guards.Lit.{Lit}
use Rattle.lois_constraint.specs.Entailment.{CubeIsSatisfiable, Entails}

-- some choice meets the cube k, and it entails no cube of g
pub record IsUncovered (k : List Lit) (g : List (List Lit)) : Type 0 where
  pub met : CubeIsSatisfiable k
  pub apart : All (λ q. Entails k q → ⊥) g
