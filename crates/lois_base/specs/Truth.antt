-- Truth at a choice of atoms.
use Rattle.std.specs.Prelude.{ℕ, Bool, not, List, get_or, map}
use Rattle.std.specs.List.{list_all, list_any}
use Rattle.lois_base.specs.Atom.{Atom, equal, below, whole}
use Rattle.lois_base.specs.declared.guards.Lit.{Lit}
use Rattle.lois_base.specs.declared.guards.Op.{Op}
use Rattle.lois_base.specs.declared.guards.Op.TheVariants.{Eq, Ne, Lt, AtMost}

-- the atom at a level; where the choice lacks the level zero, on which nothing rests
abbrev pub atom_at : List Atom → ℕ → Atom
atom_at u i = get_or u i (whole 0)

-- a relation between two atoms
abbrev pub op_holds : Op → Atom → Atom → Bool
op_holds Eq a b = equal a b
op_holds Ne a b = not (equal a b)
op_holds Lt a b = below a b
op_holds AtMost a b = not (below b a)

-- a literal holds where its relation holds between the atoms at its two levels
abbrev pub lit_holds : List Atom → Lit → Bool
lit_holds u l = op_holds l.op (atom_at u l.left) (atom_at u l.right)

-- a cube holds where all its literals hold
abbrev pub cube_holds : List Atom → List Lit → Bool
cube_holds u = list_all (lit_holds u)

-- a constraint holds where one of its cubes holds
abbrev pub holds : List Atom → List (List Lit) → Bool
holds u = list_any (cube_holds u)

-- a choice of whole numbers
abbrev pub sampled : List ℕ → List Atom
sampled = map whole
