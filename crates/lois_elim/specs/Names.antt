-- Formulas whose levels are names of a constraint's levels, and levels that must have equal atoms.
use Rattle.std.specs.Prelude.{◌≡◌, ℕ, ◌<◌, ◌≤◌, List, ◌++◌, length, take, map, IsTrue, ◌↔◌}
use Rattle.std.specs.List.{All}
use Rattle.lois_base.specs.Atom.{Atom, equal}
use Rattle.lois_base.specs.FormulaData.{FormulaD}
use Rattle.lois_base.specs.FormulaTruth.{FormulaHolds}
use Rattle.lois_base.specs.Truth.{atom_at, holds}
use Rattle.lois_base.specs.declared.guards.Lit.{Lit}

-- the choice that a formula is asked at where its levels below `free` name themselves, and the later ones those of `bound`, in order
abbrev pub named_atoms : ℕ → List ℕ → List Atom → List Atom
named_atoms free bound c = take free c ++ map (atom_at c) bound

-- all names are levels below n
abbrev pub AreNames : ℕ → ℕ → List ℕ → Type 0
AreNames n free bound = (free ≤ n) × All (λ i. i < n) bound

-- at each choice of n atoms, r holds exactly where the formula does under its names
abbrev pub AgreesUnder : ℕ → ℕ → List ℕ → FormulaD → List (List Lit) → Type 0
AgreesUnder n free bound f r =
    (c : List Atom) → length c ≡ n → IsTrue (holds c r) ↔ FormulaHolds (named_atoms free bound c) f

-- at each choice of n atoms, r holds exactly where both g and the formula under its names do
abbrev pub AgreesUnderWithBoth : ℕ → ℕ → List ℕ → List (List Lit) → FormulaD → List (List Lit) → Type 0
AgreesUnderWithBoth n free bound g f r =
    (c : List Atom) → length c ≡ n → IsTrue (holds c r) ↔ (IsTrue (holds c g) × FormulaHolds (named_atoms free bound c) f)

-- where the formula holds, levels i and j have equal atoms
abbrev pub Forces : FormulaD → ℕ → ℕ → Type 0
Forces f i j =
    (u : List Atom) → i < length u → FormulaHolds u f → IsTrue (equal (atom_at u i) (atom_at u j))
