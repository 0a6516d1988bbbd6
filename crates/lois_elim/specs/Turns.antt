-- The parts of a conjunction in the turns in which they are met: literals, what is no negation, negations.
use Rattle.std.specs.Prelude.{◌≡◌, ℕ, Bool, true, false, not, List, length, IsTrue, ◌↔◌}
use Rattle.lois_base.specs.Atom.{Atom}
use Rattle.lois_base.specs.FormulaData.{FormulaD, lit, all, any, neg, exists, forall, FormulasD, no_formulas, formula}
use Rattle.lois_base.specs.FormulaTruth.{FormulaHolds}
use Rattle.lois_base.specs.Truth.{holds}
use Rattle.lois_base.specs.declared.guards.Lit.{Lit}
use Rattle.lois_elim.specs.Names.{named_atoms}

abbrev pub is_literal : FormulaD → Bool
is_literal (lit l) = true
is_literal (all fs) = false
is_literal (any fs) = false
is_literal (neg f) = false
is_literal (exists f) = false
is_literal (forall f) = false

-- the negations, or what is neither a negation nor a literal
abbrev pub in_turn : Bool → FormulaD → Bool
in_turn negations (lit l) = false
in_turn negations (all fs) = not negations
in_turn negations (any fs) = not negations
in_turn negations (neg f) = negations
in_turn negations (exists f) = not negations
in_turn negations (forall f) = not negations

-- the formulas hold of which the test is true
abbrev pub HoldWhere : (FormulaD → Bool) → List Atom → FormulasD → Type 0
HoldWhere test u no_formulas = Unit {0}
HoldWhere test u (formula f fs) = (IsTrue (test f) → FormulaHolds u f) × HoldWhere test u fs

-- at each choice of n atoms, r holds exactly where g does and, under their names, those of the formulas of which the test is true
abbrev pub AgreesInTurn : ℕ → ℕ → List ℕ → (FormulaD → Bool) → List (List Lit) → FormulasD → List (List Lit) → Type 0
AgreesInTurn n free bound test g fs r =
    (c : List Atom) → length c ≡ n → IsTrue (holds c r) ↔ (IsTrue (holds c g) × HoldWhere test (named_atoms free bound c) fs)
