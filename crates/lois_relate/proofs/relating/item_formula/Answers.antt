use Rattle.std.proofs.Common.{◌≡◌, length, ◌∙◌, subst}
use Rattle.std.specs.Prelude.{IfOk}
use Rattle.lois_base.specs.FormulaView.{view}
use Rattle.lois_base.specs.Tree.{tree}
use Rattle.lois_relate.specs.Named.{level_range}
use Rattle.lois_relate.specs.Relations.{HoldsWhereItemIn}
use Rattle.lois_relate.proofs.Own.{all_below}
use Rattle.lois_relate.proofs.Places.{all_comps_at}
use Rattle.lois_relate.proofs.relating.item_formula.Goals as goal

pub item_formula_among-requires-clause-places : goal.item_formula_among-requires-clause-places
item_formula_among-requires-clause-places c =
    all_below (length c.args.others.now) c.as_slice.result.now (c.as_slice.ensures.value ∙ c.in_ok-places.ensures)

pub returns-clause-truth : goal.returns-clause-truth
returns-clause-truth c =
    let are : c.as_slice.result.now ≡ level_range 0 (length c.args.others.now) = c.as_slice.ensures.value ∙ c.in_ok-places.ensures in
    subst (λ z. IfOk c.item_formula_among.result (λ f. HoldsWhereItemIn c.args.size c.args.binders (tree c.args.item.now) z (view f))) (all_comps_at c.args.others.now c.as_slice.result.now are) c.item_formula_among.ensures.truth
