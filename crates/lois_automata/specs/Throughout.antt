-- What is said of the choices that a constraint admits, and of a verdict.
use Rattle.std.specs.Prelude.{◌≡◌, ℕ, List, length, IsTrue}
use Rattle.lois_base.specs.Atom.{Atom}
use Rattle.lois_base.specs.Truth.{holds}
use Rattle.lois_base.specs.declared.guards.Lit.{Lit}

-- the property holds at each choice of n atoms that u admits
abbrev pub HoldsThroughout : ℕ → List (List Lit) → (List Atom → Type 0) → Type 0
HoldsThroughout n u P = (c : List Atom) → length c ≡ n → IsTrue (holds c u) → P c
