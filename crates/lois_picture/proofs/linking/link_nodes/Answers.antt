use Rattle.lois_base.proofs.Viewed.{item_has}
use Rattle.lois_census.specs.Left.{IsUsable}
use Rattle.lois_census.specs.OrbitView.{orbit_of}
use Rattle.lois_picture.specs.Drawing.{HasListedEnds}
use Rattle.lois_picture.specs.EdgeView.{edge_of}
use Rattle.lois_picture.specs.Graphs.{HasItsEnds}
use Rattle.lois_picture.proofs.Lists.{made_more, all_more}
use Rattle.lois_picture.proofs.linking.link_nodes.Goals as goal

pub make_edge-requires-clause-usable : goal.make_edge-requires-clause-usable
make_edge-requires-clause-usable g c =
    item_has orbit_of (IsUsable g.T.Structure.ordered) c.as_slice-orbit-items.result.now c.args.moves.now c.loop-orbit.orbit-index c.orbit-item.result c.as_slice-orbit-items.ensures.items c.loop-orbit-test.true c.orbit-item.is c.requires.moves

pub make_edge-requires-clause-listed : goal.make_edge-requires-clause-listed
make_edge-requires-clause-listed g c =
    item_has orbit_of (HasListedEnds g.T.Structure.ordered c.args.nodes.now) c.as_slice-orbit-items.result.now c.args.moves.now c.loop-orbit.orbit-index c.orbit-item.result c.as_slice-orbit-items.ensures.items c.loop-orbit-test.true c.orbit-item.is c.requires.listed

pub loop-orbit-preserved : goal.loop-orbit-preserved
loop-orbit-preserved g c =
    let edge = edge_of c.in_ok-edge.edge in
    let pushed = c.in_ok-push.ensures.appended in
    record {
      orbits = made_more orbit_of (λ v. v.orbit) c.as_slice-orbit-items.result.now c.loop-orbit.orbit-index c.orbit-item.result c.loop-orbit.edges c.push.new.self edge c.loop-orbit-test.true c.orbit-item.is c.loop-orbit.invariant.orbits pushed c.in_ok-edge.ensures.orbit;
      ends = all_more (HasItsEnds g.T.Structure.ordered c.args.nodes.now) c.loop-orbit.edges c.push.new.self edge c.loop-orbit.invariant.ends pushed c.in_ok-edge.ensures.ends;
    }
