-- What private contracts say of sets that are drawn, of ends and of nodes.
use Rattle.std.specs.Prelude.{◌≡◌, ℕ, Bool, true, false, List, [], map, IsTrue, ◌↔◌, ◌⊎◌, Option, Some, None}
use Rattle.lois_base.specs.Atom.{Atom}
use Rattle.lois_base.specs.Data.{TermD, CompD, comp, CompsD}
use Rattle.lois_base.specs.Fits.{Fits}
use Rattle.lois_base.specs.Patterns.{AreAlike}
use Rattle.lois_base.specs.Tree.{tree}
use Rattle.lois_base.specs.Truth.{sampled}
use Rattle.lois_base.specs.Validity.{AdmitsTerm}
use Rattle.lois_base.specs.Values.{PointValue, point, IsIn}
use Rattle.lois_base.specs.declared.values.Term.{Term}
use Rattle.lois_algebra.specs.Gathered.{IsCompMember}
use Rattle.lois_automata.specs.Machines.{IsAutomatonAt}
use Rattle.lois_automata.specs.Projections.{pair_of, triple_of, AddsOfOne}
use Rattle.lois_census.specs.OrbitData.{OrbitD}
use Rattle.lois_census.specs.Orbits.{value_of, IsInOrbit, IsInListedOrbit}
use Rattle.lois_meaning.specs.Automata.{IsPair}
use Rattle.lois_terms.specs.Collections.{IsColl}
use Rattle.lois_terms.specs.Shapes.{shape_of}
use Rattle.lois_picture.specs.GraphData.{NodeD, EdgeD}
use Rattle.lois_picture.specs.Graphs.{node_orbits, LeadsBy, IsInNode, HasItsEnds, IsRelation, IsEndOf, IsEndIn, IsAutomatonGraph, IsRelationGraph}
use Rattle.lois_picture.specs.declared.graphs.Graph.{Graph}

-- a set that uses no level outside of its binders
pub record IsClosedSet (ordered : Bool) (t : TermD) : Type 0 where
  pub set : IsColl t
  pub levels : Fits 0 t
  pub operators : AdmitsTerm ordered t

-- each move leads from one of the nodes to one of them
abbrev pub MovesJoin : PointValue → PointValue → Type 0
MovesJoin nodes moves =
    (x : PointValue) → IsIn x moves → (p q : PointValue) × LeadsBy x p q × IsIn p nodes × IsIn q nodes

-- a step from a to b, or the pair of them, as it is written
abbrev pub IsMoveTerm : TermD → TermD → TermD → Type 0
IsMoveTerm t a b = ((l : TermD) × (t ≡ triple_of a l b)) ⊎ (t ≡ pair_of a b)

-- at each choice alike to the sample the answer says whether the term's value is in the orbit
abbrev pub TellsOrbit : Bool → TermD → List ℕ → OrbitD → Bool → Type 0
TellsOrbit ordered t sample o answer =
    (d : List Atom) → AreAlike ordered (sampled sample) d → IsTrue answer ↔ IsInOrbit ordered (point t d) o

-- at each choice alike to the sample the term's value is in the node of that number
abbrev pub LiesInNode : Bool → List NodeD → TermD → List ℕ → ℕ → Type 0
LiesInNode ordered nodes t sample number =
    (d : List Atom) → AreAlike ordered (sampled sample) d → IsInNode ordered nodes number (point t d)

-- the shapes of the nodes' items
abbrev pub shapes_of : List NodeD → List ℕ
shapes_of = map (λ v. shape_of v.orbit.item)

-- the orbit's value leads from a value in one of the nodes to another
abbrev pub HasListedEnds : Bool → List NodeD → OrbitD → Type 0
HasListedEnds ordered nodes o =
    (p q : PointValue) × LeadsBy (value_of o) p q × IsInListedOrbit ordered (node_orbits nodes) p × IsInListedOrbit ordered (node_orbits nodes) q

-- an edge of that orbit
pub record IsEdgeOf (ordered : Bool) (nodes : List NodeD) (o : OrbitD) (e : EdgeD) : Type 0 where
  pub orbit : e.orbit ≡ o
  pub ends : HasItsEnds ordered nodes e

-- the comprehension with another item
abbrev pub end_comp : CompD → TermD → CompD
end_comp (comp m g t) end = comp m g end

-- each member of the comprehension is a pair
abbrev pub MakesPairs : CompD → Type 0
MakesPairs k = (x : PointValue) → IsCompMember k [] x → (p q : PointValue) × IsPair x p q

-- the ends of the comprehension's members, which all are pairs, are put in
abbrev pub AddsEnds : CompD → CompsD → CompsD → Type 0
AddsEnds k before after = MakesPairs k × AddsOfOne IsEndOf 0 k before after

-- the ends are put in, or some member of the comprehension is no pair
abbrev pub AddsEndsOrNot : CompD → CompsD → CompsD → Bool → Type 0
AddsEndsOrNot k before after true = AddsEnds k before after
AddsEndsOrNot k before after false = (x : PointValue) × IsCompMember k [] x × ((p q : PointValue) → IsPair x p q → ⊥)

-- the ends of a set of pairs, or that it is none
pub record AreEndsOf (ordered : Bool) (t ends : TermD) : Type 0 where
  pub relation : IsRelation (point t [])
  pub closed : IsClosedSet ordered ends
  pub members : (p : PointValue) → IsIn p (point ends []) ↔ IsEndIn (point t []) p

abbrev pub AreEndsOrNone : Bool → TermD → Option Term → Type 0
AreEndsOrNone ordered t None = IsRelation (point t []) → ⊥
AreEndsOrNone ordered t (Some ends) = AreEndsOf ordered t (tree ends)

-- the graph of an automaton or of a relation, or that the value is neither
abbrev pub IsGraphOrNone : Bool → TermD → Option Graph → Type 0
IsGraphOrNone ordered t None = (IsAutomatonAt t [] → ⊥) × (IsRelation (point t []) → ⊥)
IsGraphOrNone ordered t (Some g) = IsAutomatonGraph ordered t g ⊎ IsRelationGraph ordered t g

abbrev pub IsRelationGraphOrNone : Bool → TermD → Option Graph → Type 0
IsRelationGraphOrNone ordered t None = IsRelation (point t []) → ⊥
IsRelationGraphOrNone ordered t (Some g) = IsRelationGraph ordered t g
