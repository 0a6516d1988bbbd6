-- Terms whose levels have names of their own: level i of the term stands for the level names[i] of a choice. So two terms can be
-- compared beside one another, each with binders of its own, and neither is copied.
use Rattle.std.specs.Prelude.{ℕ, zero, suc, ◌<◌, List, [], ◌∷◌, map, slice_index}
use Rattle.std.specs.List.{All}
use Rattle.lois_base.specs.Atom.{Atom}
use Rattle.lois_base.specs.Truth.{atom_at}
use Rattle.lois_base.specs.declared.guards.Lit.{Lit}

-- the atoms of a choice at the names
abbrev pub atoms_named : List ℕ → List Atom → List Atom
atoms_named names c = map (λ i. atom_at c i) names

abbrev pub AreBelow : ℕ → List ℕ → Type 0
AreBelow n = All (λ i. i < n)

-- m numbers from n on
abbrev pub level_range : ℕ → ℕ → List ℕ
level_range n zero = []
level_range n (suc m) = n ∷ level_range (suc n) m

abbrev pub named_lit : List ℕ → Lit → Lit
named_lit names l = record { op = l.op; left = slice_index names l.left; right = slice_index names l.right }
