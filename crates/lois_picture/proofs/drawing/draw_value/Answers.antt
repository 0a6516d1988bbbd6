use Rattle.std.proofs.Common.{[], ap, sym, subst}
use Rattle.std.proofs.lemmas.Result.{IfOk-weaker}
use Rattle.lois_base.specs.Data.{coll, comps_of}
use Rattle.lois_base.specs.Tree.{tree}
use Rattle.lois_deciders.proofs.OnlyAsked.{only_asked_nothing}
use Rattle.lois_picture.specs.Drawing.{IsGraphOrNone, IsRelationGraphOrNone}
use Rattle.lois_picture.proofs.Drawn.{no_relation_but_set, graph_of_relation}
use Rattle.lois_picture.proofs.drawing.draw_value.Goals as goal

pub returns-in-Coll-clause-graph : goal.returns-in-Coll-clause-graph
returns-in-Coll-clause-graph g c =
    let o = g.T.Structure.ordered in
    let v = tree c.args.value.now in
    IfOk-weaker c.draw_relation.result (IsRelationGraphOrNone o (coll (comps_of c.in-Coll.pairs))) (IsGraphOrNone o v) (λ r h. graph_of_relation o v r (c.in_default.ensures.none []) (subst (λ z. IsRelationGraphOrNone o z r) (sym (ap tree c.in-Coll.is)) h)) c.draw_relation.ensures.graph

pub returns-in_default-value : goal.returns-in_default-value
returns-in_default-value g c = record {
  graph = (c.in_default.ensures.none [], no_relation_but_set c.args.value.now c.in_default-value.not-Coll);
  only_asked = only_asked_nothing (λ d. (goal.Decider-dyn g (d.vtable, d.value)).kind_of d.value) (λ d. (goal.Decider-dyn g (d.vtable, d.value)).questions d.value) c.args.chosen.now;
}
