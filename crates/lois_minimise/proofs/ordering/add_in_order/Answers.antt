use Rattle.std.proofs.Common.{arith, sym, subst}
use Rattle.std.proofs.lemmas.Result.{IfOk-weaker}
use Rattle.lois_base.specs.Data.{comp, comps_of}
use Rattle.lois_base.specs.Tree.{tree}
use Rattle.lois_algebra.specs.Gathered.{IsPut}
use Rattle.lois_automata.specs.Projections.{AddsOfOne}
use Rattle.lois_minimise.specs.Classes.{IsInOrder}
use Rattle.lois_minimise.proofs.Ordered.{of_no_pair, in_order_pair, adds_in_order, out_of_order}
use Rattle.lois_minimise.proofs.ordering.add_in_order.Goals as goal

pub returns-in_default : goal.returns-in_default
returns-in_default c = λ n.
    let k = c.args.comp.now in
    of_no_pair IsInOrder in_order_pair n k.binders k.guard (tree k.item) (comps_of c.args.made.now) c.in_default.ensures.none

pub returns-then-shape : goal.returns-then-shape
returns-then-shape c = λ n.
    let k = c.args.comp.now in
    let first = tree c.in-Some.first.now in
    let second = tree c.in-Some.second.now in
    let before = comps_of c.args.made.now in
    subst (λ z. AddsOfOne IsInOrder n (comp k.binders k.guard z) before before) (sym c.in-Some.ensures.some)
    (out_of_order n k.binders k.guard first second before (λ h. omega (arith, h, c.if-shape.true, c.shape.ensures.exact, c.shape-2.ensures.exact)))

pub returns : goal.returns
returns c =
    let k = c.args.comp.now in
    let first = tree c.in-Some.first.now in
    let second = tree c.in-Some.second.now in
    let before = comps_of c.args.made.now in
    let after = comps_of c.push_comp.new.comps in
    IfOk-weaker c.push_comp.result (λ _. IsPut (comp k.binders c.in_ok-guard.guard (tree c.in_ok-item.item)) before after) _ (λ _ added n.
    subst (λ z. AddsOfOne IsInOrder n (comp k.binders k.guard z) before after) (sym c.in-Some.ensures.some)
    (adds_in_order n k.binders k.guard first second before after (omega (arith, c.if-shape.false, c.shape.ensures.exact, c.shape-2.ensures.exact))
    (subst (λ z. IsPut (comp k.binders k.guard z) before after) c.in-Some.ensures.some (subst (λ z. IsPut (comp k.binders k.guard (tree z)) before after) c.in_ok-item.ensures (subst (λ z. IsPut (comp k.binders z (tree c.in_ok-item.item)) before after) c.in_ok-guard.ensures added))))) c.push_comp.ensures.added
