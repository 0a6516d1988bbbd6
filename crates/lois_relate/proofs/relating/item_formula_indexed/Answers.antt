use Rattle.std.proofs.Common.{map}
use Rattle.std.proofs.lemmas.Result.{IfOk-weaker}
use Rattle.lois_base.specs.FormulaView.{view}
use Rattle.lois_base.specs.Tree.{tree, comp_of}
use Rattle.lois_relate.specs.Candidates.{comps_at}
use Rattle.lois_relate.specs.Relations.{HoldsWhereItemIn}
use Rattle.lois_relate.proofs.Places.{item_in_all}
use Rattle.lois_relate.proofs.relating.item_formula_indexed.Goals as goal

pub item_formula_among-requires-clause-places : goal.item_formula_among-requires-clause-places
item_formula_among-requires-clause-places c = c.candidates-places.ensures.places

pub returns-clause-truth : goal.returns-clause-truth
returns-clause-truth c =
    let ks = map comp_of c.args.others.now in
    let item = tree c.args.item.now in
    let places = c.candidates-places.result.now in
    IfOk-weaker c.item_formula_among.result (λ f. HoldsWhereItemIn c.args.size c.args.binders item (comps_at ks places) (view f)) _ (λ f holds. item_in_all ks item places c.args.size c.args.binders (view f) c.candidates-places.ensures.all holds) c.item_formula_among.ensures.truth
