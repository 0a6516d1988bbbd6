-- Levels that have the same atom wherever a constraint holds.
use Rattle.std.specs.Prelude.{◌≡◌, ℕ, List, length, IsTrue, IsFalse}
use Rattle.lois_base.specs.Atom.{Atom, equal}
use Rattle.lois_base.specs.Truth.{atom_at, holds}
use Rattle.lois_base.specs.declared.guards.Lit.{Lit}

-- at each choice of n atoms at which h holds, the levels b and a have the same atom
abbrev pub IsFixed : ℕ → List (List Lit) → ℕ → ℕ → Type 0
IsFixed n h b a =
    (c : List Atom) → length c ≡ n → IsTrue (holds c h) → IsTrue (equal (atom_at c b) (atom_at c a))

-- at some such choice they have different ones
abbrev pub CanBeApart : ℕ → List (List Lit) → ℕ → ℕ → Type 0
CanBeApart n h b a =
    (c : List Atom) × (length c ≡ n) × IsTrue (holds c h) × IsFalse (equal (atom_at c b) (atom_at c a))
