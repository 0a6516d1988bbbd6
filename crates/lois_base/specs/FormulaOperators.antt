-- Which operators occur in a formula.
use Rattle.std.specs.Prelude.{Bool}
use Rattle.lois_base.specs.FormulaData.{FormulaD, lit, all, any, neg, exists, forall, FormulasD, no_formulas, formula}
use Rattle.lois_base.specs.Validity.{AdmitsLit}

abbrev mutual
  pub AdmitsFormula : Bool → FormulaD → Type 0
  AdmitsFormula ordered (lit l) = AdmitsLit ordered l
  AdmitsFormula ordered (all fs) = AdmitsFormulas ordered fs
  AdmitsFormula ordered (any fs) = AdmitsFormulas ordered fs
  AdmitsFormula ordered (neg f) = AdmitsFormula ordered f
  AdmitsFormula ordered (exists f) = AdmitsFormula ordered f
  AdmitsFormula ordered (forall f) = AdmitsFormula ordered f

  pub AdmitsFormulas : Bool → FormulasD → Type 0
  AdmitsFormulas ordered no_formulas = Unit {0}
  AdmitsFormulas ordered (formula f fs) = AdmitsFormula ordered f × AdmitsFormulas ordered fs
