-- Formulas as contracts see them.
use Rattle.std.specs.Prelude.{ℕ, suc, max, List, [], ◌∷◌}
use Rattle.lois_base.specs.declared.guards.Lit.{Lit}
use Rattle.lois_base.specs.Fits.{LitFits}

mutual
  pub data FormulaD : Type 0 where
    lit : Lit → FormulaD
    all : FormulasD → FormulaD
    any : FormulasD → FormulaD
    neg : FormulaD → FormulaD
    exists : FormulaD → FormulaD
    forall : FormulaD → FormulaD

  pub data FormulasD : Type 0 where
    no_formulas : FormulasD
    formula : FormulaD → FormulasD → FormulasD

abbrev pub formulas_of : List FormulaD → FormulasD
formulas_of [] = no_formulas
formulas_of (f ∷ fs) = formula f (formulas_of fs)

-- which levels may be used: a quantifier in a formula of n levels binds level n
abbrev mutual
  pub FormulaFits : ℕ → FormulaD → Type 0
  FormulaFits n (lit l) = LitFits n l
  FormulaFits n (all fs) = FormulasFit n fs
  FormulaFits n (any fs) = FormulasFit n fs
  FormulaFits n (neg f) = FormulaFits n f
  FormulaFits n (exists f) = FormulaFits (suc n) f
  FormulaFits n (forall f) = FormulaFits (suc n) f

  pub FormulasFit : ℕ → FormulasD → Type 0
  FormulasFit n no_formulas = Unit {0}
  FormulasFit n (formula f fs) = FormulaFits n f × FormulasFit n fs

-- how deeply formulas are nested
abbrev mutual
  pub depth_of_formula : FormulaD → ℕ
  depth_of_formula (lit l) = 0
  depth_of_formula (all fs) = suc (depth_of_formulas fs)
  depth_of_formula (any fs) = suc (depth_of_formulas fs)
  depth_of_formula (neg f) = suc (depth_of_formula f)
  depth_of_formula (exists f) = suc (depth_of_formula f)
  depth_of_formula (forall f) = suc (depth_of_formula f)

  pub depth_of_formulas : FormulasD → ℕ
  depth_of_formulas no_formulas = 0
  depth_of_formulas (formula f fs) = max (depth_of_formula f) (depth_of_formulas fs)
