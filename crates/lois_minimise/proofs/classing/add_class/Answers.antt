use Rattle.std.proofs.Common.{subst}
use Rattle.std.proofs.lemmas.Result.{IfOk-weaker}
use Rattle.lois_base.specs.Data.{coll, comp, comps_of}
use Rattle.lois_base.specs.Tree.{tree}
use Rattle.lois_algebra.specs.Gathered.{IsPut}
use Rattle.lois_automata.specs.Projections.{pair_of}
use Rattle.lois_minimise.proofs.ClassTerms.{adds_class}
use Rattle.lois_minimise.proofs.classing.add_class.Goals as goal

pub returns : goal.returns
returns g c =
    let k = c.args.comp.now in
    let class = tree c.in_ok-class.class in
    let before = comps_of c.args.classes.now in
    let after = comps_of c.push_comp.new.comps in
    IfOk-weaker c.push_comp.result (λ _. IsPut (comp k.binders c.in_ok-guard.guard (tree c.in_ok-item.item)) before after) _ (λ _ added.
    adds_class c.args.size k.binders k.guard (coll (comps_of c.args.alike.now)) (tree k.item) class c.in_ok-class.ensures.set c.in_ok-class.ensures.class before after
    (subst (λ z. IsPut (comp k.binders k.guard (pair_of (tree z) class)) before after) c.in_ok-own.ensures
    (subst (λ z. IsPut (comp k.binders k.guard z) before after) c.in_ok-item.ensures
    (subst (λ z. IsPut (comp k.binders z (tree c.in_ok-item.item)) before after) c.in_ok-guard.ensures added)))
    c.in_ok-class.ensures.levels c.in_ok-class.ensures.operators c.in_ok-class.ensures.widths) c.push_comp.ensures.added
