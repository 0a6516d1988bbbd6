use Rattle.std.proofs.Common.{◌≡◌, map, take}
use Rattle.std.specs.List.{All}
use Rattle.lois_census.specs.OrbitView.{orbit_of}
use Rattle.lois_picture.specs.Graphs.{edge_orbits, HasItsEnds}
use Rattle.lois_picture.proofs.linking.link_nodes.Given as goal

abbrev pub invariant-loop-orbit : goal.invariant-loop-orbit
invariant-loop-orbit g l = record {
  orbits : edge_orbits l.edges ≡ map orbit_of (take l.orbit-index l.orbit-items);
  ends : All (HasItsEnds g.T.Structure.ordered l.nodes) l.edges;
}
