-- Graphs of automata and of binary relations. Nodes are orbits of states or of ends of pairs, edges are orbits of steps or of pairs.
use Rattle.std.specs.Prelude.{◌≡◌, ℕ, ◌+◌, Bool, List, [], ◌∷◌, ◌++◌, length, map, IsTrue, ◌↔◌, ◌⊎◌}
use Rattle.std.specs.List.{All}
use Rattle.lois_base.specs.Data.{TermD, coll, no_comps}
use Rattle.lois_base.specs.Values.{PointValue, point, IsIn}
use Rattle.lois_meaning.specs.Automata.{IsPair, IsTriple}
use Rattle.lois_meaning.specs.Kinds.{IsSet, IsSetOf}
use Rattle.lois_automata.specs.Machines.{IsAutomatonAt}
use Rattle.lois_automata.specs.Projections.{five_terms}
use Rattle.lois_census.specs.Censuses.{AreOrbitsOf}
use Rattle.lois_census.specs.OrbitData.{OrbitD}
use Rattle.lois_census.specs.Orbits.{IsInOrbit, FitsSample}
use Rattle.lois_picture.specs.GraphData.{NodeD, EdgeD}
use Rattle.lois_picture.specs.declared.graphs.Graph.{Graph}

abbrev pub node_orbits : List NodeD → List OrbitD
node_orbits = map (λ v. v.orbit)

abbrev pub edge_orbits : List EdgeD → List OrbitD
edge_orbits = map (λ e. e.orbit)

-- the value lies in the node of that number, counted from 1
abbrev pub IsInNode : Bool → List NodeD → ℕ → PointValue → Type 0
IsInNode ordered nodes i p =
    (before behind : List NodeD) × (v : NodeD) × (nodes ≡ before ++ v ∷ behind) × (i ≡ length before + 1) × IsInOrbit ordered p v.orbit

-- x is a step from p to q, or the pair of them
abbrev pub LeadsBy : PointValue → PointValue → PointValue → Type 0
LeadsBy x p q = ((l : PointValue) × IsTriple x p l q) ⊎ IsPair x p q

-- each step of the edge leads from its first node to its second
abbrev pub HasItsEnds : Bool → List NodeD → EdgeD → Type 0
HasItsEnds ordered nodes e =
    (x p q : PointValue) → IsInOrbit ordered x e.orbit → LeadsBy x p q → IsInNode ordered nodes e.from p × IsInNode ordered nodes e.to q

-- the mark says of each value of the orbit whether it is in the set
abbrev pub IsMarkOf : Bool → TermD → OrbitD → Bool → Type 0
IsMarkOf ordered set o mark = (p : PointValue) → IsInOrbit ordered p o → IsTrue mark ↔ IsIn p (point set [])

pub record IsGraphOf (ordered : Bool) (nodes moves initial accepting : TermD) (g : Graph) : Type 0 where
  -- each state is in exactly one node, and each step in exactly one edge
  pub nodes_are : AreOrbitsOf ordered nodes (node_orbits g.nodes)
  pub edges_are : AreOrbitsOf ordered moves (edge_orbits g.edges)
  pub ends : All (HasItsEnds ordered g.nodes) g.edges
  pub initial_marks : All (λ v. IsMarkOf ordered initial v.orbit v.initial) g.nodes
  pub accepting_marks : All (λ v. IsMarkOf ordered accepting v.orbit v.accepting) g.nodes

-- t is an automaton, and the graph is of its states and steps
abbrev pub IsAutomatonGraph : Bool → TermD → Graph → Type 0
IsAutomatonGraph ordered t g =
    (states letters steps initial accepting : TermD) × (t ≡ five_terms states letters steps initial accepting) × IsAutomatonAt t [] × IsGraphOf ordered states steps initial accepting g

-- a set of pairs
abbrev pub IsRelation : PointValue → Type 0
IsRelation v = IsSet v × ((x : PointValue) → IsIn x v → (p q : PointValue) × IsPair x p q)

-- x is a pair, and p is its first or its second part
abbrev pub IsEndOf : PointValue → PointValue → Type 0
IsEndOf x p = (q : PointValue) × (IsPair x p q ⊎ IsPair x q p)

abbrev pub IsEndIn : PointValue → PointValue → Type 0
IsEndIn v p = (x : PointValue) × IsIn x v × IsEndOf x p

-- t is a set of pairs, and the graph is of their ends and of the pairs; no node has a mark
abbrev pub IsRelationGraph : Bool → TermD → Graph → Type 0
IsRelationGraph ordered t g =
    (ends : TermD) × IsRelation (point t []) × IsSetOf (point ends []) (IsEndIn (point t [])) × IsGraphOf ordered ends t (coll no_comps) (coll no_comps) g

-- each item can be spelled among as many levels as its sample has numbers
abbrev pub HasGraphText : Graph → Type 0
HasGraphText g = All FitsSample (node_orbits g.nodes) × All FitsSample (edge_orbits g.edges)
