use Rattle.std.proofs.Common.{sym, subst}
use Rattle.std.proofs.lemmas.Result.{IfOk-weaker}
use Rattle.lois_base.specs.Data.{comp, comps_of}
use Rattle.lois_base.specs.Tree.{tree}
use Rattle.lois_algebra.specs.Gathered.{IsPut}
use Rattle.lois_automata.specs.Projections.{AddsOfOne}
use Rattle.lois_minimise.specs.Classes.{IsSecondOf}
use Rattle.lois_minimise.proofs.Seconds.{adds_second, no_second}
use Rattle.lois_minimise.proofs.pairs.add_second.Goals as goal

pub returns-in_default : goal.returns-in_default
returns-in_default c = λ n.
    let k = c.args.comp.now in
    no_second n k.binders k.guard (tree k.item) (comps_of c.args.made.now) c.in_default.ensures.none

pub returns : goal.returns
returns c =
    let k = c.args.comp.now in
    let before = comps_of c.args.made.now in
    let after = comps_of c.push_comp.new.comps in
    IfOk-weaker c.push_comp.result (λ _. IsPut (comp k.binders c.in_ok-guard.guard (tree c.in_ok-item.item)) before after) _ (λ _ added n.
    subst (λ z. AddsOfOne IsSecondOf n (comp k.binders k.guard z) before after) (sym c.in-Some.ensures.some)
    (adds_second n k.binders k.guard _ _ before after
    (subst (λ z. IsPut (comp k.binders k.guard (tree z)) before after) c.in_ok-item.ensures
    (subst (λ z. IsPut (comp k.binders z (tree c.in_ok-item.item)) before after) c.in_ok-guard.ensures added)))) c.push_comp.ensures.added
