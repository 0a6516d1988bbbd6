-- What a term that is to be read keeps of the term that it stands for, and what it is.
use Rattle.std.specs.Prelude.{ℕ, List}
use Rattle.lois_base.specs.Data.{TermD}
use Rattle.lois_base.specs.Normal.{IsNormal}
use Rattle.lois_base.specs.declared.guards.Lit.{Lit}
use Rattle.lois_simplify.specs.Irredundant.{HasNormalGuards}
use Rattle.lois_simplify.specs.Plain.{HasPlainGuards}
use Rattle.lois_simplify.specs.Simplification.{IsSimplification}

-- r stands for t where u holds, inside n levels, and is normal there, with normalised guards without `<=`, of which one that
-- always holds is `true`
pub record IsReadable (u : List (List Lit)) (n : ℕ) (t r : TermD) : Type 0 where
  pub kept : IsSimplification u n t r
  pub normal : IsNormal r u n
  pub guards : HasNormalGuards r
  pub plain : HasPlainGuards r u n
