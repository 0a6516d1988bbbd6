-- Comprehensions in the place of one.
use Rattle.std.specs.Prelude.{◌≡◌, ℕ, List, [], ◌∷◌, ◌++◌}
use Rattle.lois_base.specs.Data.{CompD}
use Rattle.lois_base.specs.declared.guards.Lit.{Lit}
use Rattle.lois_simplify.specs.Simplification.{IsSimplification, set_of}

-- a list of comprehensions got some more, which stand for k where u holds, inside n levels
pub record PutsParts (u : List (List Lit)) (n : ℕ) (before after : List CompD) (k : CompD) : Type 0 where
  pub parts : List CompD
  pub appended : after ≡ before ++ parts
  pub kept : IsSimplification u n (set_of (k ∷ [])) (set_of parts)
