use Rattle.std.proofs.Common.{◌≡◌, ◌+◌, map, ap, sym, subst, ◌∙◌}
use Rattle.std.proofs.lemmas.Result.{IfOk-weaker}
use Rattle.lois_base.specs.Data.{coll, comps_of}
use Rattle.lois_base.specs.FormulaView.{view}
use Rattle.lois_base.specs.Tree.{tree}
use Rattle.lois_elim.specs.Bound.{AgreesWith}
use Rattle.lois_relate.specs.Relations.{HoldsWhereItemIn}
use Rattle.lois_algebra.proofs.Selections.{found_is}
use Rattle.lois_terms.specs.Shapes.{item_shape}
use Rattle.lois_automata.specs.Built.{HoldsWhereMember}
use Rattle.lois_automata.specs.KeyShapes.{shapes_in}
use Rattle.lois_automata.proofs.KeyShapes.{shapes_are}
use Rattle.lois_automata.proofs.memberships.membership_indexed.Goals as goal

pub item_formula_indexed-requires-clause-shapes : goal.item_formula_indexed-requires-clause-shapes
item_formula_indexed-requires-clause-shapes g c =
    c.requires.shapes ∙ (ap (λ t. shapes_in (tree t)) c.in-Coll.is ∙ (shapes_are c.in-Coll.others ∙ ap (map item_shape) (sym c.as_slice.ensures)))

pub returns-clause-truth : goal.returns-clause-truth
returns-clause-truth g c =
    let n = c.args.size in
    let item = tree c.args.item.now in
    let ks = comps_of c.in-Coll.others in
    let f = view c.in_ok-formula.formula in
    let set : tree c.args.t.now ≡ coll ks = ap tree c.in-Coll.is in
    let member : HoldsWhereItemIn n c.args.by item ks f = subst (λ z. HoldsWhereItemIn n c.args.by item (comps_of z) f) c.as_slice.ensures c.in_ok-formula.ensures.truth in
    IfOk-weaker c.quantifier_free.result (AgreesWith (n + c.args.by) f) _ (λ r agrees. subst (λ z. HoldsWhereMember n c.args.by item z r) (sym set) (found_is n c.args.by ks item f r member agrees)) c.quantifier_free.ensures.truth
