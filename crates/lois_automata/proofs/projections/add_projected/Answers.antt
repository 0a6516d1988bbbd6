use Rattle.std.proofs.Common.{sym, subst}
use Rattle.std.proofs.lemmas.Result.{IfOk-weaker}
use Rattle.lois_base.specs.Data.{comp, comps_of}
use Rattle.lois_base.specs.Tree.{tree}
use Rattle.lois_algebra.specs.Gathered.{IsPut}
use Rattle.lois_automata.specs.Projections.{AddsOfOne, IsProjectionOf}
use Rattle.lois_automata.proofs.Shaping.{adds_shaped, shapes_nothing}
use Rattle.lois_automata.proofs.projections.add_projected.Goals as goal

pub returns-in_default : goal.returns-in_default
returns-in_default c = λ n.
    let k = c.args.comp.now in
    shapes_nothing c.args.shape n k.binders k.guard (tree k.item) (comps_of c.args.made.now) c.in_default.ensures.none

pub returns : goal.returns
returns c =
    let k = c.args.comp.now in
    let step = c.in-Some.step in
    let p = tree step.source.now in
    let l = tree step.letter.now in
    let q = tree step.target.now in
    let before = comps_of c.args.made.now in
    let after = comps_of c.push_comp.new.comps in
    IfOk-weaker c.push_comp.result (λ _. IsPut (comp k.binders c.in_ok-guard.guard (tree c.in_ok-item.item)) before after) _ (λ _ added n.
    subst (λ z. AddsOfOne (IsProjectionOf c.args.shape) n (comp k.binders k.guard z) before after) (sym c.in-Some.ensures.some)
    (adds_shaped c.args.shape n k.binders k.guard p l q before after
    (subst (λ z. IsPut (comp k.binders k.guard z) before after) c.in_ok-item.ensures
    (subst (λ z. IsPut (comp k.binders z (tree c.in_ok-item.item)) before after) c.in_ok-guard.ensures added)))) c.push_comp.ensures.added
