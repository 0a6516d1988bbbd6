use Rattle.std.proofs.Common.{◌≡◌, map, take}
use Rattle.std.specs.List.{All}
use Rattle.lois_base.specs.Tree.{tree}
use Rattle.lois_census.specs.OrbitView.{orbit_of}
use Rattle.lois_picture.specs.Graphs.{node_orbits, IsMarkOf}
use Rattle.lois_picture.proofs.marks.mark_nodes.Given as goal

abbrev pub invariant-loop-orbit : goal.invariant-loop-orbit
invariant-loop-orbit g l = record {
  orbits : node_orbits l.nodes ≡ map orbit_of (take l.orbit-index l.orbit-items);
  initial : All (λ v. IsMarkOf g.T.Structure.ordered (tree l.starts) v.orbit v.initial) l.nodes;
  accepting : All (λ v. IsMarkOf g.T.Structure.ordered (tree l.ends) v.orbit v.accepting) l.nodes;
}
