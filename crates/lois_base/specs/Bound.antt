-- Constraints whose highest level is bound by a quantifier.
use Rattle.std.specs.Prelude.{◌≡◌, ℕ, List, [], ◌∷◌, ◌++◌, length, IsTrue, ◌↔◌}
use Rattle.lois_base.specs.Atom.{Atom}
use Rattle.lois_base.specs.Truth.{holds}
use Rattle.lois_base.specs.declared.guards.Lit.{Lit}

-- some atom at the next level makes the constraint hold
abbrev pub SomeAtomMeets : List Atom → List (List Lit) → Type 0
SomeAtomMeets c g = (a : Atom) × IsTrue (holds (c ++ a ∷ []) g)

-- at each choice of n atoms, r holds exactly where g does with some atom at level n
abbrev pub HoldsForSome : ℕ → List (List Lit) → List (List Lit) → Type 0
HoldsForSome n g r = (c : List Atom) → length c ≡ n → IsTrue (holds c r) ↔ SomeAtomMeets c g

-- at each choice of n atoms, r holds exactly where g does with each atom at level n
abbrev pub HoldsForEach : ℕ → List (List Lit) → List (List Lit) → Type 0
HoldsForEach n g r = (c : List Atom) → length c ≡ n → IsTrue (holds c r) ↔ ((a : Atom) → IsTrue (holds (c ++ a ∷ []) g))
