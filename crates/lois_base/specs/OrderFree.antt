-- What has neither `<` nor `<=`.
use Rattle.std.specs.Prelude.{false, List}
use Rattle.lois_base.specs.declared.guards.Lit.{Lit}
use Rattle.lois_base.specs.Data.{TermD}
use Rattle.lois_base.specs.FormulaData.{FormulaD}
use Rattle.lois_base.specs.Validity.{AdmitsCube, AdmitsConstraint, AdmitsTerm}
use Rattle.lois_base.specs.FormulaOperators.{AdmitsFormula}

-- neither `<` nor `<=` occurs
abbrev pub IsOrderFreeCube : List Lit → Type 0
IsOrderFreeCube = AdmitsCube false

abbrev pub IsOrderFree : List (List Lit) → Type 0
IsOrderFree = AdmitsConstraint false

abbrev pub IsOrderFreeFormula : FormulaD → Type 0
IsOrderFreeFormula = AdmitsFormula false

abbrev pub IsOrderFreeTerm : TermD → Type 0
IsOrderFreeTerm = AdmitsTerm false
