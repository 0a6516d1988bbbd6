-- What sort of value a value is: an atom, a tag, a tuple with its parts, or a set with its members.
use Rattle.std.specs.Prelude.{◌≡◌, ℕ, List, [], ◌∷◌, ◌↔◌, ◌⊎◌, IsTrue}
use Rattle.lois_base.specs.Atom.{Atom, equal}
use Rattle.lois_base.specs.Data.{TermD, var, tag, tup, coll, TermsD, no_terms, term}
use Rattle.lois_base.specs.Truth.{atom_at}
use Rattle.lois_base.specs.Values.{PointValue, point, IsIn, IsSame}

abbrev pub IsAtomAt : TermD → List Atom → Atom → Type 0
IsAtomAt (var i) c a = IsTrue (equal (atom_at c i) a)
IsAtomAt _ c a = ⊥

abbrev pub IsTagTerm : TermD → List ℕ → Type 0
IsTagTerm (tag n) name = n ≡ name
IsTagTerm _ name = ⊥

abbrev pub IsSetTerm : TermD → Type 0
IsSetTerm (coll cs) = Unit {0}
IsSetTerm _ = ⊥

-- the parts of a tuple are its terms, each with the tuple's choice
abbrev pub part_values : TermsD → List Atom → List PointValue
part_values no_terms c = []
part_values (term t ts) c = point t c ∷ part_values ts c

abbrev pub HasPartsAt : TermD → List Atom → List PointValue → Type 0
HasPartsAt (tup ts) c us = us ≡ part_values ts c
HasPartsAt _ c us = ⊥

-- v is the atom a
abbrev pub IsAtomValue : PointValue → Atom → Type 0
IsAtomValue v a = IsAtomAt v.term_of v.choice a

-- v is the tag of this name
abbrev pub IsTagValue : PointValue → List ℕ → Type 0
IsTagValue v name = IsTagTerm v.term_of name

-- v is a tuple, and these are its parts
abbrev pub HasParts : PointValue → List PointValue → Type 0
HasParts v us = HasPartsAt v.term_of v.choice us

abbrev pub IsSet : PointValue → Type 0
IsSet v = IsSetTerm v.term_of

-- v is a set, and exactly the values that P holds of are in it
abbrev pub IsSetOf : PointValue → (PointValue → Type 0) → Type 0
IsSetOf v P = IsSet v × ((w : PointValue) → IsIn w v ↔ P w)

-- as many values, the same one by one
abbrev pub AreSame : List PointValue → List PointValue → Type 0
AreSame [] [] = Unit {0}
AreSame (v ∷ vs) (w ∷ ws) = IsSame v w × AreSame vs ws
AreSame _ _ = ⊥

-- w is the same as one of the values
abbrev pub IsOneOf : PointValue → List PointValue → Type 0
IsOneOf w [] = ⊥
IsOneOf w (v ∷ vs) = IsSame w v ⊎ IsOneOf w vs
