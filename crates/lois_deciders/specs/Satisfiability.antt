-- Whether a constraint holds somewhere, and where one holds and another doesn't.
use Rattle.std.specs.Prelude.{◌≡◌, ℕ, List, length, IsTrue, IsFalse}
use Rattle.lois_base.specs.Atom.{Atom}
use Rattle.lois_base.specs.Truth.{holds, sampled}
use Rattle.lois_base.specs.declared.guards.Lit.{Lit}
use Rattle.lois_deciders.specs.Satisfaction.{IsSmall}

-- the constraint holds at some choice of n atoms
abbrev pub ConstraintIsSatisfiable : ℕ → List (List Lit) → Type 0
ConstraintIsSatisfiable n g = (c : List Atom) × (length c ≡ n) × IsTrue (holds c g)

-- n numbers below n at which g holds and h doesn't
abbrev pub IsCounterexample : ℕ → List (List Lit) → List (List Lit) → List ℕ → Type 0
IsCounterexample n g h s = IsSmall n s × IsTrue (holds (sampled s) g) × IsFalse (holds (sampled s) h)
