use Rattle.std.proofs.Common.{◌≡◌, sym, subst, ap, ◌∙◌}
use Rattle.std.proofs.lemmas.Result.{IfOk-weaker}
use Rattle.lois_base.specs.Data.{comp, comps_of}
use Rattle.lois_base.specs.Tree.{tree}
use Rattle.lois_terms.specs.Shapes.{shape_of}
use Rattle.lois_algebra.specs.Gathered.{IsPut}
use Rattle.lois_automata.specs.Projections.{pair_of}
use Rattle.lois_minimise.proofs.OfShape.{adds_of_shape, no_pair_of_shape}
use Rattle.lois_minimise.proofs.classing.add_of_shape.Goals as goal

pub returns-in_default : goal.returns-in_default
returns-in_default c = λ n.
    let k = c.args.comp.now in
    no_pair_of_shape n c.args.wanted k.binders k.guard (tree k.item) (comps_of c.args.made.now) (λ a b is _. c.in_default.ensures.none a b is)

pub returns-then-shape-wanted : goal.returns-then-shape-wanted
returns-then-shape-wanted c = λ n.
    let k = c.args.comp.now in
    no_pair_of_shape n c.args.wanted k.binders k.guard (tree k.item) (comps_of c.args.made.now) (λ a b is one.
    let here : pair_of (tree c.in-Some.first.now) _ ≡ pair_of a b = sym c.in-Some.ensures.some ∙ is in
    let same : tree c.in-Some.first.now ≡ a = cc in
    c.if-shape-wanted.true (c.shape.ensures.exact ∙ (ap shape_of same ∙ one)))

pub returns : goal.returns
returns c =
    let k = c.args.comp.now in
    let before = comps_of c.args.made.now in
    let after = comps_of c.push_comp.new.comps in
    IfOk-weaker c.push_comp.result (λ _. IsPut (comp k.binders c.in_ok-guard.guard (tree c.in_ok-item.item)) before after) _ (λ _ added n.
    adds_of_shape n c.args.wanted k.binders k.guard (tree k.item) before after
    (subst (λ z. IsPut (comp k.binders k.guard (tree z)) before after) c.in_ok-item.ensures
    (subst (λ z. IsPut (comp k.binders z (tree c.in_ok-item.item)) before after) c.in_ok-guard.ensures added))) c.push_comp.ensures.added
