-- Choices of equal atoms, and maps of atoms.
use Rattle.std.specs.Prelude.{◌≡◌, ℕ, ◌<◌, Bool, List, length, IsTrue}
use Rattle.lois_base.specs.Atom.{Atom, equal}
use Rattle.lois_base.specs.Truth.{atom_at, op_holds}
use Rattle.lois_base.specs.Validity.{is_admitted}
use Rattle.lois_base.specs.declared.guards.Op.{Op}

-- equal atoms at each level of which P holds
pub record AreEqualFor (P : ℕ → Type 0) (c d : List Atom) : Type 0 where
  pub count : length c ≡ length d
  pub atoms : (i : ℕ) → P i → i < length c → IsTrue (equal (atom_at c i) (atom_at d i))

-- equal atoms at each level
abbrev pub AreEqual : List Atom → List Atom → Type 0
AreEqual = AreEqualFor (λ i. Unit {0})

-- the map keeps equality of atoms, and their order where atoms are ordered
abbrev pub IsEmbedding : Bool → (Atom → Atom) → Type 0
IsEmbedding ordered f =
    (op : Op) → IsTrue (is_admitted ordered op) → (a b : Atom) → op_holds op (f a) (f b) ≡ op_holds op a b
