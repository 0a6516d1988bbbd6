-- Which others can have a member of a comprehension: those whose items have its item's shape.
use Rattle.std.specs.Prelude.{◌≡◌, ℕ, ◌-◌, nat_lt, if◌then◌else◌, List, length, slice_get, Option, None, Contains, ◌⊎◌, IsTrue}
use Rattle.lois_base.specs.Atom.{Atom}
use Rattle.lois_base.specs.Data.{CompD}
use Rattle.lois_base.specs.FormulaData.{FormulaD}
use Rattle.lois_base.specs.FormulaTruth.{FormulaHolds}
use Rattle.lois_base.specs.Truth.{holds}
use Rattle.lois_base.specs.declared.guards.Lit.{Lit}
use Rattle.lois_terms.specs.Shapes.{item_shape}

-- those of `others` whose items have the shape x, and perhaps more of them, came to the list
pub record AddsCandidates (x : ℕ) (others before after : List CompD) : Type 0 where
  pub kept : (k : CompD) → Contains before k → Contains after k
  pub only : (k : CompD) → Contains after k → Contains before k ⊎ Contains others k
  pub all : (k : CompD) → Contains others k → item_shape k ≡ x → Contains after k

-- the item at a position of a list of which those before `first` are gone
abbrev pub behind : {X : Type 0} → ℕ → List X → ℕ → Option X
behind first xs i = if (nat_lt i first) then None else slice_get xs (i - first)

-- at some choice of n atoms h holds, and the formula doesn't
abbrev pub FailsSomewhere : ℕ → List (List Lit) → FormulaD → Type 0
FailsSomewhere n h f = (d : List Atom) × (length d ≡ n) × IsTrue (holds d h) × (FormulaHolds d f → ⊥)
