-- Truth of formulas at a choice of atoms.
use Rattle.std.specs.Prelude.{List, [], ◌∷◌, ◌++◌, IsTrue, ◌⊎◌}
use Rattle.lois_base.specs.Atom.{Atom}
use Rattle.lois_base.specs.Truth.{lit_holds}
use Rattle.lois_base.specs.FormulaData.{FormulaD, lit, all, any, neg, exists, forall, FormulasD, no_formulas, formula}

abbrev mutual
  pub FormulaHolds : List Atom → FormulaD → Type 0
  FormulaHolds u (lit l) = IsTrue (lit_holds u l)
  FormulaHolds u (all fs) = AllHold u fs
  FormulaHolds u (any fs) = AnyHolds u fs
  FormulaHolds u (neg f) = FormulaHolds u f → ⊥
  FormulaHolds u (exists f) = (a : Atom) × FormulaHolds (u ++ a ∷ []) f
  FormulaHolds u (forall f) = (a : Atom) → FormulaHolds (u ++ a ∷ []) f

  pub AllHold : List Atom → FormulasD → Type 0
  AllHold u no_formulas = Unit {0}
  AllHold u (formula f fs) = FormulaHolds u f × AllHold u fs

  pub AnyHolds : List Atom → FormulasD → Type 0
  AnyHolds u no_formulas = ⊥
  AnyHolds u (formula f fs) = FormulaHolds u f ⊎ AnyHolds u fs
