use Rattle.std.proofs.Common.{sym, subst}
use Rattle.std.specs.List.{All}
use Rattle.lois_base.specs.Tree.{tree}
use Rattle.lois_constraint.proofs.Shifting.{All-of_map}
use Rattle.lois_census.specs.Censuses.{AreOrbitsOf}
use Rattle.lois_census.specs.Left.{IsUsable}
use Rattle.lois_picture.proofs.Drawn.{all_usable, all_listed}
use Rattle.lois_picture.proofs.drawing.draw_graph.Goals as goal

pub mark_nodes-requires-clause-usable : goal.mark_nodes-requires-clause-usable
mark_nodes-requires-clause-usable g c =
    let o = g.T.Structure.ordered in
    let found = c.in_ok-orbits.ensures in
    all_usable o c.in_ok-orbits.orbits found.levels (found.operators o c.requires.nodes.operators)

pub link_nodes-requires-clause-moves : goal.link_nodes-requires-clause-moves
link_nodes-requires-clause-moves g c =
    let o = g.T.Structure.ordered in
    let found = c.in_ok-moved.ensures in
    all_usable o c.in_ok-moved.moved found.levels (found.operators o c.requires.moves.operators)

pub link_nodes-requires-clause-nodes : goal.link_nodes-requires-clause-nodes
link_nodes-requires-clause-nodes g c =
    let o = g.T.Structure.ordered in
    let found = c.in_ok-orbits.ensures in
    All-of_map (IsUsable o) (λ v. v.orbit) c.in_ok-marked.marked
    (subst (All (IsUsable o)) (sym c.in_ok-marked.ensures.orbits) (all_usable o c.in_ok-orbits.orbits found.levels (found.operators o c.requires.nodes.operators)))

pub link_nodes-requires-clause-listed : goal.link_nodes-requires-clause-listed
link_nodes-requires-clause-listed g c =
    all_listed g.T.Structure.ordered (tree c.args.nodes.now) (tree c.args.moves.now) c.in_ok-marked.marked c.in_ok-orbits.orbits c.in_ok-moved.moved c.in_ok-marked.ensures.orbits c.in_ok-orbits.ensures.each c.in_ok-moved.ensures.members c.requires.joined

pub returns-clause-graph : goal.returns-clause-graph
returns-clause-graph g c =
    let o = g.T.Structure.ordered in
    let found = c.in_ok-orbits.ensures in
    let moved = c.in_ok-moved.ensures in
    let nodes : AreOrbitsOf o (tree c.args.nodes.now) c.in_ok-orbits.orbits = record { levels = found.levels; members = found.members; each = found.each; once = found.once; taken = found.taken; operators = found.operators; widths = found.widths; strict = found.strict } in
    let edges : AreOrbitsOf o (tree c.args.moves.now) c.in_ok-moved.moved = record { levels = moved.levels; members = moved.members; each = moved.each; once = moved.once; taken = moved.taken; operators = moved.operators; widths = moved.widths; strict = moved.strict } in
    record {
      nodes_are = subst (AreOrbitsOf o (tree c.args.nodes.now)) (sym c.in_ok-marked.ensures.orbits) nodes;
      edges_are = subst (AreOrbitsOf o (tree c.args.moves.now)) (sym c.in_ok-edges.ensures.orbits) edges;
      ends = c.in_ok-edges.ensures.ends;
      initial_marks = c.in_ok-marked.ensures.initial;
      accepting_marks = c.in_ok-marked.ensures.accepting;
    }
