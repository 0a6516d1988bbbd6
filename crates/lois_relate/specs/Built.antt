-- What the small formulas say of which a large one is built.
use Rattle.std.specs.Prelude.{◌≡◌, ℕ, ◌+◌, Bool, List, ◌++◌, length, ◌⊎◌, ◌↔◌}
use Rattle.lois_base.specs.Atom.{Atom}
use Rattle.lois_base.specs.FormulaData.{FormulaD, FormulaFits}
use Rattle.lois_base.specs.FormulaTruth.{FormulaHolds}
use Rattle.lois_base.specs.FormulaOperators.{AdmitsFormula}

-- A formula over n levels that holds at each choice of n atoms exactly where Q does. Which operators it has, A says.
pub record Defines (n : ℕ) (Q : List Atom → Type 0) (A : Bool → Type 0) (f : FormulaD) : Type 0 where
  pub truth : (c : List Atom) → length c ≡ n → FormulaHolds c f ↔ Q c
  pub levels : FormulaFits n f
  pub operators : (o : Bool) → A o → AdmitsFormula o f

-- r holds where f and g do
pub record IsBoth (f g r : FormulaD) : Type 0 where
  pub truth : (c : List Atom) → FormulaHolds c r ↔ (FormulaHolds c f × FormulaHolds c g)
  pub levels : (n : ℕ) → FormulaFits n f → FormulaFits n g → FormulaFits n r
  pub operators : (o : Bool) → AdmitsFormula o f → AdmitsFormula o g → AdmitsFormula o r

-- r holds where f or g does
pub record IsEither (f g r : FormulaD) : Type 0 where
  pub truth : (c : List Atom) → FormulaHolds c r ↔ (FormulaHolds c f ⊎ FormulaHolds c g)
  pub levels : (n : ℕ) → FormulaFits n f → FormulaFits n g → FormulaFits n r
  pub operators : (o : Bool) → AdmitsFormula o f → AdmitsFormula o g → AdmitsFormula o r

-- r holds where f doesn't
pub record IsNegation (f r : FormulaD) : Type 0 where
  pub truth : (c : List Atom) → FormulaHolds c r ↔ (FormulaHolds c f → ⊥)
  pub levels : (n : ℕ) → FormulaFits n f → FormulaFits n r
  pub operators : (o : Bool) → AdmitsFormula o f → AdmitsFormula o r

-- r holds where f doesn't or g does
pub record IsImplied (f g r : FormulaD) : Type 0 where
  pub truth : (c : List Atom) → FormulaHolds c r ↔ ((FormulaHolds c f → ⊥) ⊎ FormulaHolds c g)
  pub levels : (n : ℕ) → FormulaFits n f → FormulaFits n g → FormulaFits n r
  pub operators : (o : Bool) → AdmitsFormula o f → AdmitsFormula o g → AdmitsFormula o r

-- r holds where f does for some m further atoms
pub record IsForSome (m : ℕ) (f r : FormulaD) : Type 0 where
  pub truth : (c : List Atom) → FormulaHolds c r ↔ ((e : List Atom) × (length e ≡ m) × FormulaHolds (c ++ e) f)
  pub levels : (n : ℕ) → FormulaFits (n + m) f → FormulaFits n r
  pub operators : (o : Bool) → AdmitsFormula o f → AdmitsFormula o r
