use Rattle.std.proofs.Common.{length, sym, subst}
use Rattle.lois_base.specs.Fits.{Fits}
use Rattle.lois_base.specs.Tree.{tree}
use Rattle.lois_base.specs.Truth.{sampled}
use Rattle.lois_base.specs.Values.{point}
use Rattle.lois_census.specs.Orbits.{IsInListedOrbit}
use Rattle.lois_picture.specs.Drawing.{LiesInNode}
use Rattle.lois_picture.specs.EdgeView.{edge_of}
use Rattle.lois_picture.specs.Graphs.{node_orbits}
use Rattle.lois_picture.proofs.Moves.{move_term, ends_fit, ends_admitted, ends_listed, edge_between}
use Rattle.lois_picture.proofs.linking.make_edge.Goals as goal

pub unreachable-requires : goal.unreachable-requires
unreachable-requires g c =
    let t = tree c.args.orbit.now.item in
    let leads = c.requires.listed in
    let parts = move_term t (sampled c.args.orbit.now.sample) leads.0 leads.1 leads.2 in
    c.in_default.ensures.none parts.0 parts.1 parts.2

pub find_node-requires-clause-over : goal.find_node-requires-clause-over
find_node-requires-clause-over g c =
    let t = tree c.args.orbit.now.item in
    let ends = c.in-Some.ends in
    let n = length c.as_slice-sample.result.now in
    record {
      levels = (ends_fit t (tree ends.source.now) (tree ends.target.now) c.in-Some.ensures.some n (subst (λ s. Fits (length s) t) (sym c.as_slice-sample.ensures) c.requires.usable.levels)).0;
      operators = (ends_admitted t (tree ends.source.now) (tree ends.target.now) c.in-Some.ensures.some g.T.Structure.ordered c.requires.usable.operators).0;
    }

pub find_node-requires-clause-listed : goal.find_node-requires-clause-listed
find_node-requires-clause-listed g c =
    let o = g.T.Structure.ordered in
    let t = tree c.args.orbit.now.item in
    let ends = c.in-Some.ends in
    let os = node_orbits c.args.nodes.now in
    subst (λ s. IsInListedOrbit o os (point (tree ends.source.now) (sampled s))) (sym c.as_slice-sample.ensures)
    (ends_listed t (tree ends.source.now) (tree ends.target.now) c.in-Some.ensures.some o c.args.nodes.now c.args.orbit.now.sample c.requires.listed).0

pub find_node-requires-2-clause-over : goal.find_node-requires-2-clause-over
find_node-requires-2-clause-over g c =
    let t = tree c.args.orbit.now.item in
    let ends = c.in-Some.ends in
    let n = length c.as_slice-sample.result.now in
    record {
      levels = (ends_fit t (tree ends.source.now) (tree ends.target.now) c.in-Some.ensures.some n (subst (λ s. Fits (length s) t) (sym c.as_slice-sample.ensures) c.requires.usable.levels)).1;
      operators = (ends_admitted t (tree ends.source.now) (tree ends.target.now) c.in-Some.ensures.some g.T.Structure.ordered c.requires.usable.operators).1;
    }

pub find_node-requires-2-clause-listed : goal.find_node-requires-2-clause-listed
find_node-requires-2-clause-listed g c =
    let o = g.T.Structure.ordered in
    let t = tree c.args.orbit.now.item in
    let ends = c.in-Some.ends in
    let os = node_orbits c.args.nodes.now in
    subst (λ s. IsInListedOrbit o os (point (tree ends.target.now) (sampled s))) (sym c.as_slice-sample.ensures)
    (ends_listed t (tree ends.source.now) (tree ends.target.now) c.in-Some.ensures.some o c.args.nodes.now c.args.orbit.now.sample c.requires.listed).1

pub returns : goal.returns
returns g c =
    let o = g.T.Structure.ordered in
    let t = tree c.args.orbit.now.item in
    let ends = c.in-Some.ends in
    let nodes = c.args.nodes.now in
    edge_between t (tree ends.source.now) (tree ends.target.now) c.in-Some.ensures.some o nodes c.args.orbit.now.sample (edge_of (record { orbit = c.in_ok-copy_orbit.field-0; from = c.in_ok-from.from; to = c.in_ok-to.to })) c.in_ok-copy_orbit.ensures
    (subst (λ s. LiesInNode o nodes (tree ends.source.now) s c.in_ok-from.from) c.as_slice-sample.ensures c.in_ok-from.ensures)
    (subst (λ s. LiesInNode o nodes (tree ends.target.now) s c.in_ok-to.to) c.as_slice-sample.ensures c.in_ok-to.ensures)
