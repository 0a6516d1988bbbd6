-- Constraints that stand for a formula, and for a constraint whose highest levels are bound.
use Rattle.std.specs.Prelude.{◌≡◌, ℕ, List, ◌++◌, length, IsTrue, ◌↔◌}
use Rattle.lois_base.specs.Atom.{Atom}
use Rattle.lois_base.specs.FormulaData.{FormulaD}
use Rattle.lois_base.specs.FormulaTruth.{FormulaHolds}
use Rattle.lois_base.specs.Truth.{holds}
use Rattle.lois_base.specs.declared.guards.Lit.{Lit}
pub use Rattle.lois_base.specs.Bound.{HoldsForSome, HoldsForEach}

-- at each choice of n atoms, r holds exactly where the formula does
abbrev pub AgreesWith : ℕ → FormulaD → List (List Lit) → Type 0
AgreesWith n f r = (c : List Atom) → length c ≡ n → IsTrue (holds c r) ↔ FormulaHolds c f

-- at each choice of n atoms, r holds exactly where g does with some m atoms behind
abbrev pub HoldsForSomeMore : ℕ → ℕ → List (List Lit) → List (List Lit) → Type 0
HoldsForSomeMore n m g r =
    (c : List Atom) → length c ≡ n → IsTrue (holds c r) ↔ ((e : List Atom) × (length e ≡ m) × IsTrue (holds (c ++ e) g))
