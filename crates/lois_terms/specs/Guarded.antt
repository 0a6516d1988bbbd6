-- Sets under a further guard.
use Rattle.std.specs.Prelude.{List, length, IsTrue, IsFalse}
use Rattle.lois_base.specs.Atom.{Atom}
use Rattle.lois_base.specs.Data.{TermD, coll, CompD, comp, CompsD, no_comps, more}
use Rattle.lois_base.specs.Fits.{ConstraintFits}
use Rattle.lois_base.specs.Normal.{both}
use Rattle.lois_base.specs.Truth.{holds}
use Rattle.lois_base.specs.Values.{PointValue, point, IsMember, IsSame}
use Rattle.lois_base.specs.declared.guards.Lit.{Lit}

-- the same value at each choice at which the constraint holds
abbrev pub KeepsWhere : List (List Lit) → TermD → TermD → Type 0
KeepsWhere c t r =
    (d : List Atom) → ConstraintFits (length d) c → IsTrue (holds d c) → IsSame (point r d) (point t d)

-- no members at each choice at which the constraint doesn't hold
abbrev pub IsEmptyElsewhere : List (List Lit) → TermD → Type 0
IsEmptyElsewhere c r =
    (d : List Atom) → ConstraintFits (length d) c → IsFalse (holds d c) → (u : PointValue) → IsMember u (point r d) → ⊥

-- a set with the constraint beside each of its guards
abbrev pub guarded_comp : List (List Lit) → CompD → CompD
guarded_comp c (comp m g t) = comp m (both c g) t

abbrev pub guarded_items : List (List Lit) → CompsD → CompsD
guarded_items c no_comps = no_comps
guarded_items c (more k ks) = more (guarded_comp c k) (guarded_items c ks)

abbrev pub guarded : List (List Lit) → TermD → TermD
guarded c (coll ks) = coll (guarded_items c ks)
guarded c t = t
