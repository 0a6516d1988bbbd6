use Rattle.std.proofs.Common.{◌≡◌, ◌+◌, ap, sym, subst}
use Rattle.std.proofs.lemmas.Result.{IfOk-weaker}
use Rattle.lois_base.specs.Data.{comp, comps_of}
use Rattle.lois_base.specs.Fits.{ItemsFit}
use Rattle.lois_base.specs.FormulaView.{view}
use Rattle.lois_base.specs.Tree.{tree, comp_of}
use Rattle.lois_base.specs.Validity.{AdmitsItems}
use Rattle.lois_relate.specs.Relations.{HoldsWhereItemIn}
use Rattle.lois_algebra.specs.Gathered.{IsPut}
use Rattle.lois_algebra.proofs.Selections.{found_is}
use Rattle.lois_shortest_word.proofs.Fresh.{adds_fresh}
use Rattle.lois_shortest_word.proofs.rounds.add_fresh.Goals as goal

pub item_formula-requires-clause-levels : goal.item_formula-requires-clause-levels
item_formula-requires-clause-levels g c =
    subst (λ z. ItemsFit c.args.size (comps_of z)) (sym c.as_slice.ensures) c.requires.seen.levels

pub quantifier_free-requires-clause-operators : goal.quantifier_free-requires-clause-operators
quantifier_free-requires-clause-operators g c =
    c.in_ok-formula.ensures.operators g.T.Structure.ordered c.requires.over.operators.1 (subst (λ z. AdmitsItems g.T.Structure.ordered (comps_of z)) (sym c.as_slice.ensures) c.requires.seen.operators)

pub returns : goal.returns
returns g c =
    let n = c.args.size in
    let k = c.args.comp.now in
    let seen = comps_of c.args.seen.now in
    let fresh = comps_of c.args.fresh.now in
    let seen' = comps_of c.push_comp.new.comps in
    let fresh' = comps_of c.push_comp-2.new.comps in
    let found = c.in_ok-found.found in
    let guard = c.in_ok-guard.guard in
    let item = tree k.item in
    let own = c.in_ok-found.ensures in
    let copied : c.in_ok-copied.copied ≡ _ = c.in_ok-copied.ensures in
    let member = subst (λ z. HoldsWhereItemIn n k.binders item (comps_of z) (view c.in_ok-formula.formula)) c.as_slice.ensures c.in_ok-formula.ensures.truth in
    let same : tree c.in_ok-copy.field-0 ≡ item = ap tree c.in_ok-copy.ensures in
    let put : IsPut (comp k.binders guard item) seen seen' = subst (λ z. IsPut (comp k.binders guard z) seen seen') same c.in_ok-push_comp.ensures.added in
    IfOk-weaker c.push_comp-2.result (λ _. IsPut (comp_of c.in_ok-copied.copied) fresh fresh') _ (λ _ added.
    adds_fresh n k.binders k.guard found guard item seen fresh seen' fresh'
    (found_is n k.binders seen item (view c.in_ok-formula.formula) found member own.truth) c.in_ok-guard.ensures.truth put
    (subst (λ z. IsPut (comp k.binders guard z) fresh fresh') same (subst (λ z. IsPut (comp_of z) fresh fresh') copied added))
    (c.requires.over.levels.0, c.in_ok-guard.ensures.fits (n + k.binders) c.requires.over.levels.1 own.levels, c.requires.over.levels.2)
    (λ o a h. (c.in_ok-guard.ensures.operators o a.0 (own.operators o (c.in_ok-formula.ensures.operators o a.1 (subst (λ z. AdmitsItems o (comps_of z)) (sym c.as_slice.ensures) h))), a.1))) c.push_comp-2.ensures.added
