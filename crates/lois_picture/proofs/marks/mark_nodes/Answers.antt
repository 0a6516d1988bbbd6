use Rattle.std.proofs.Common.{sym, subst}
use Rattle.lois_base.proofs.Viewed.{item_has}
use Rattle.lois_base.specs.Tree.{tree}
use Rattle.lois_census.specs.Left.{IsUsable}
use Rattle.lois_census.specs.OrbitView.{orbit_of}
use Rattle.lois_picture.specs.Graphs.{IsMarkOf}
use Rattle.lois_picture.specs.NodeView.{node_of}
use Rattle.lois_picture.proofs.Lists.{made_more, all_more}
use Rattle.lois_picture.proofs.marks.mark_nodes.Goals as goal

pub mark_node-requires-clause-usable : goal.mark_node-requires-clause-usable
mark_node-requires-clause-usable g c =
    item_has orbit_of (IsUsable g.T.Structure.ordered) c.as_slice-orbit-items.result.now c.args.orbits.now c.loop-orbit.orbit-index c.orbit-item.result c.as_slice-orbit-items.ensures.items c.loop-orbit-test.true c.orbit-item.is c.requires.usable

pub loop-orbit-preserved : goal.loop-orbit-preserved
loop-orbit-preserved g c =
    let o = g.T.Structure.ordered in
    let starts = tree c.args.starts.now in
    let ends = tree c.args.ends.now in
    let node = c.in_ok-node.node in
    let same = c.in_ok-node.ensures.orbit in
    let pushed = c.in_ok-push.ensures.appended in
    record {
      orbits = made_more orbit_of (λ v. v.orbit) c.as_slice-orbit-items.result.now c.loop-orbit.orbit-index c.orbit-item.result c.loop-orbit.nodes c.push.new.self (node_of node) c.loop-orbit-test.true c.orbit-item.is c.loop-orbit.invariant.orbits pushed same;
      initial = all_more (λ v. IsMarkOf o starts v.orbit v.initial) c.loop-orbit.nodes c.push.new.self (node_of node) c.loop-orbit.invariant.initial pushed (subst (λ k. IsMarkOf o starts k node.initial) (sym same) c.in_ok-node.ensures.initial);
      accepting = all_more (λ v. IsMarkOf o ends v.orbit v.accepting) c.loop-orbit.nodes c.push.new.self (node_of node) c.loop-orbit.invariant.accepting pushed (subst (λ k. IsMarkOf o ends k node.accepting) (sym same) c.in_ok-node.ensures.accepting);
    }
