-- Nodes and edges as contracts see them.
use Rattle.std.specs.Prelude.{ℕ, Bool, List}
use Rattle.std.proofs.Common.{refl}
use Rattle.std.specs.Coded.{Coded, code_by, coded_ℕ, coded_bool, coded_list, coded×}
use Rattle.lois_census.specs.OrbitData.{OrbitD}
use Rattle.lois_census.specs.CensusCodes.{orbit_code}

-- an orbit of states, or of ends of pairs, with its marks
pub record NodeD : Type 0 where
  pub orbit : OrbitD
  pub initial : Bool
  pub accepting : Bool

-- an orbit of steps, or of pairs, with the numbers of the nodes that it leaves and enters, counted from 1
pub record EdgeD : Type 0 where
  pub orbit : OrbitD
  pub from : ℕ
  pub to : ℕ

abbrev pub node_code : Coded NodeD
node_code =
    code_by (OrbitD × (Bool × Bool)) (coded× orbit_code (coded× coded_bool coded_bool)) (λ v. (v.orbit, (v.initial, v.accepting))) (λ p. record { orbit = p.0; initial = p.1.0; accepting = p.1.1 }) (λ _. refl)

abbrev pub nodes_code : Coded (List NodeD)
nodes_code = coded_list node_code

abbrev pub edge_code : Coded EdgeD
edge_code =
    code_by (OrbitD × (ℕ × ℕ)) (coded× orbit_code (coded× coded_ℕ coded_ℕ)) (λ e. (e.orbit, (e.from, e.to))) (λ p. record { orbit = p.0; from = p.1.0; to = p.1.1 }) (λ _. refl)

abbrev pub edges_code : Coded (List EdgeD)
edges_code = coded_list edge_code
