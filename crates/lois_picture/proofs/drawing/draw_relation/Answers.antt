use Rattle.std.proofs.Common.{[], sym, subst}
use Rattle.lois_base.specs.Data.{coll, comps_of, no_comps}
use Rattle.lois_base.specs.Tree.{tree}
use Rattle.lois_base.specs.Values.{point}
use Rattle.lois_picture.specs.Drawing.{MovesJoin, AreEndsOrNone}
use Rattle.lois_picture.specs.Graphs.{IsGraphOf}
use Rattle.lois_picture.proofs.Drawn.{pairs_join, relation_graph}
use Rattle.lois_picture.proofs.drawing.draw_relation.Goals as goal

pub draw_graph-requires-clause-joined : goal.draw_graph-requires-clause-joined
draw_graph-requires-clause-joined g c =
    let o = g.T.Structure.ordered in
    let set = coll (comps_of c.args.pairs.now) in
    subst (λ z. MovesJoin (point (tree c.in-Some.ends) []) (point z [])) (sym c.in_ok-moves.ensures)
    (pairs_join o set (tree c.in-Some.ends) (subst (λ z. AreEndsOrNone o set z) c.in-Some.is c.in_ok-ends.ensures.ends))

pub returns-clause-graph : goal.returns-clause-graph
returns-clause-graph g c =
    let o = g.T.Structure.ordered in
    let set = coll (comps_of c.args.pairs.now) in
    let ends = tree c.in-Some.ends in
    let made = c.in_ok-graph.graph in
    relation_graph o set ends (subst (λ z. AreEndsOrNone o set z) c.in-Some.is c.in_ok-ends.ensures.ends) made
    (subst (λ z. IsGraphOf o ends z (coll no_comps) (coll no_comps) made) c.in_ok-moves.ensures
    (subst (λ z. IsGraphOf o ends (tree c.in_ok-moves.moves) (coll (comps_of z)) (coll (comps_of z)) made) c.new.ensures c.in_ok-graph.ensures.graph))
