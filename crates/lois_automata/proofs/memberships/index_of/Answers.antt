use Rattle.std.proofs.Common.{◌≡◌, List, map, ap, sym, ◌∙◌}
use Rattle.std.proofs.lemmas.Result.{IfOk-weaker}
use Rattle.lois_base.specs.Tree.{tree}
use Rattle.lois_terms.specs.Shapes.{item_shape}
use Rattle.lois_automata.specs.KeyShapes.{shapes_in}
use Rattle.lois_automata.proofs.KeyShapes.{shapes_are}
use Rattle.lois_automata.proofs.memberships.index_of.Goals as goal

pub returns : goal.returns
returns c =
    let set : shapes_in (tree c.args.t.now) ≡ map item_shape c.in-Coll.comps = ap (λ t. shapes_in (tree t)) c.in-Coll.is ∙ shapes_are c.in-Coll.comps in
    IfOk-weaker c.index_by_shape.result _ _ (λ r is. is ∙ (ap (map item_shape) c.as_slice.ensures ∙ sym set)) c.index_by_shape.ensures
