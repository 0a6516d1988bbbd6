-- The data that a formula stands for.
use Rattle.std.specs.Prelude.{List}
use Rattle.lois_base.specs.FormulaData.{FormulaD, lit, all, any, neg, exists, forall, formulas_of}
use Rattle.lois_base.specs.declared.logic.Formula.{Formula, fold-Formula, Formula-F}
use Rattle.lois_base.specs.declared.logic.Formula.TheOpen.{Formulas-F}
use Rattle.lois_base.specs.declared.logic.Formula.TheFolds.{fold-Formulas}
use Rattle.lois_base.specs.declared.logic.Formulas.{Formulas}

abbrev pub view_step : Formula-F FormulaD (List FormulaD) → FormulaD
view_step (Formula-F.Lit l) = lit l
view_step (Formula-F.All fs) = all (formulas_of fs)
view_step (Formula-F.Any fs) = any (formulas_of fs)
view_step (Formula-F.Not f) = neg f.value
view_step (Formula-F.Exists f) = exists f.value
view_step (Formula-F.Forall f) = forall f.value

abbrev pub views_step : Formulas-F FormulaD (List FormulaD) → List FormulaD
views_step fs = fs.items.items

abbrev pub view : Formula → FormulaD
view = fold-Formula FormulaD (List FormulaD) view_step views_step

-- the formulas of a list
abbrev pub views : Formulas → List FormulaD
views = fold-Formulas FormulaD (List FormulaD) view_step views_step
