-- Orbits: what a value becomes where the atoms are moved one-to-one, and in order where they are ordered. Choices that stand
-- alike (`AreAlike`) are equally long, have equal atoms at the same positions and, where `<` is admitted, the same pairs in order.
use Rattle.std.specs.Prelude.{◌≡◌, Bool, List, [], ◌++◌, length}
use Rattle.std.specs.List.{All, Any}
use Rattle.lois_base.specs.Atom.{Atom}
use Rattle.lois_base.specs.Data.{TermD, var, tag, tup, coll, CompD, comp, CompsD, no_comps, more}
use Rattle.lois_base.specs.Fits.{Fits}
use Rattle.lois_base.specs.Patterns.{AreAlike}
use Rattle.lois_base.specs.Truth.{sampled}
use Rattle.lois_base.specs.Values.{PointValue, point, IsSame}
use Rattle.lois_deciders.specs.Satisfaction.{IsConstraintSample}
use Rattle.lois_ranks.specs.Ranks.{AreRanks}
use Rattle.lois_census.specs.OrbitData.{OrbitD}

-- the orbit of the value of a term at a choice has all values that are the same as the term's at some choice alike to it
abbrev pub IsInOrbitOf : Bool → PointValue → PointValue → Type 0
IsInOrbitOf ordered v u = (d : List Atom) × AreAlike ordered u.choice d × IsSame v (point u.term_of d)

-- the value whose orbit it is
abbrev pub value_of : OrbitD → PointValue
value_of o = point o.item (sampled o.sample)

abbrev pub IsInOrbit : Bool → PointValue → OrbitD → Type 0
IsInOrbit ordered v o = IsInOrbitOf ordered v (value_of o)

-- the value is in one of the orbits
abbrev pub IsInListedOrbit : Bool → List OrbitD → PointValue → Type 0
IsInListedOrbit ordered os v = Any (IsInOrbit ordered v) os

-- no value is in both
abbrev pub AreDisjointOrbits : Bool → OrbitD → OrbitD → Type 0
AreDisjointOrbits ordered o p = (v : PointValue) → IsInOrbit ordered v o → IsInOrbit ordered v p → ⊥

-- the item fits the length of the sample
abbrev pub FitsSample : OrbitD → Type 0
FitsSample o = Fits (length o.sample) o.item

-- the orbit of the comprehension's item, as it is written, at ranks at which the guard holds
abbrev pub IsTakenFrom : Bool → CompD → OrbitD → Type 0
IsTakenFrom ordered (comp m g t) o = (o.item ≡ t) × IsConstraintSample m g o.sample × AreRanks ordered o.sample

-- the orbits come in the order of the comprehensions that they are taken from
abbrev pub AreTakenInOrder : Bool → CompsD → List OrbitD → Type 0
AreTakenInOrder ordered no_comps os = os ≡ []
AreTakenInOrder ordered (more k ks) os =
    (first rest : List OrbitD) × (os ≡ first ++ rest) × All (IsTakenFrom ordered k) first × AreTakenInOrder ordered ks rest

-- the same of those of a set
abbrev pub AreTakenFrom : Bool → TermD → List OrbitD → Type 0
AreTakenFrom ordered (var i) os = Unit {0}
AreTakenFrom ordered (tag t) os = Unit {0}
AreTakenFrom ordered (tup ts) os = Unit {0}
AreTakenFrom ordered (coll ks) os = AreTakenInOrder ordered ks os
