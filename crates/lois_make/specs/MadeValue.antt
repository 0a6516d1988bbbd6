-- The set that the made script prints: with each of its tags all pairs of different atoms.
use Rattle.std.specs.Prelude.{ℕ, zero, suc, List, [], ◌∷◌, ◌⊎◌, IsFalse}
use Rattle.lois_base.specs.Atom.{Atom, equal}
use Rattle.lois_base.specs.Data.{var, tag, tup, no_terms, term}
use Rattle.lois_base.specs.Values.{PointValue, point, IsSame}
use Rattle.lois_make.specs.MadeTree.{made_tag}

abbrev pub tagged : List ℕ → Atom → Atom → PointValue
tagged name a b = point (tup (term (tag name) (term (var 0) (term (var 1) no_terms)))) (a ∷ b ∷ [])

-- w is the triple of the tag, the atom a and another atom
abbrev pub IsTaggedWith : List ℕ → Atom → PointValue → Type 0
IsTaggedWith name a w = (b : Atom) × (IsFalse (equal a b) × IsSame w (tagged name a b))

abbrev pub IsTagged : List ℕ → PointValue → Type 0
IsTagged name w = (a : Atom) × IsTaggedWith name a w

-- w is such a triple with the tag of one of the first n loops
abbrev pub IsMade : ℕ → PointValue → Type 0
IsMade zero w = ⊥
IsMade (suc n) w = IsMade n w ⊎ IsTagged (made_tag n) w
