-- Choices of atoms beside one another, and maps of atoms.
use Rattle.std.specs.Prelude.{◌≡◌, ℕ, ◌<◌, Bool, List, length, IsTrue}
use Rattle.lois_base.specs.Atom.{Atom}
use Rattle.lois_base.specs.Truth.{atom_at, op_holds}
use Rattle.lois_base.specs.Validity.{is_admitted}
use Rattle.lois_base.specs.declared.guards.Op.{Op}

-- the relation of an operator holds at the same pairs of positions
abbrev pub Agree : Op → List Atom → List Atom → Type 0
Agree op c d =
    (i j : ℕ) → i < length c → j < length c → op_holds op (atom_at c i) (atom_at c j) ≡ op_holds op (atom_at d i) (atom_at d j)

-- Equal atoms stand at exactly the same pairs of positions, and so do smaller ones where atoms are ordered.
pub record AreAlike (ordered : Bool) (c d : List Atom) : Type 0 where
  pub count : length c ≡ length d
  pub agree : (op : Op) → IsTrue (is_admitted ordered op) → Agree op c d
