-- Lines and cases as contracts see them.
use Rattle.std.specs.Prelude.{List, ℕ}
use Rattle.lois_base.specs.Data.{TermD}
use Rattle.lois_base.specs.declared.guards.Lit.{Lit}

-- a name and the term that it holds
pub record LineD : Type 0 where
  pub name : List ℕ
  pub term : TermD

-- the lines where a constraint on the parameters holds
pub record CaseD : Type 0 where
  pub «when» : List (List Lit)
  pub lines : List LineD
