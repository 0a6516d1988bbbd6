use Rattle.std.proofs.Common.{◌≡◌, ap, sym, subst, ◌∙◌}
use Rattle.std.proofs.lemmas.Result.{IfOk-weaker}
use Rattle.lois_base.specs.Data.{comp, comps_of, coll, no_comps, more}
use Rattle.lois_base.specs.Fits.{Fits}
use Rattle.lois_base.specs.Tree.{tree}
use Rattle.lois_base.specs.Validity.{AdmitsTerm, HasBoundedWidths}
use Rattle.lois_automata.specs.Projections.{pair_of, AreSideBySide}
use Rattle.lois_shortest_word.specs.Pairs.{AddsStepsFrom, AddsJointSteps}
use Rattle.lois_shortest_word.proofs.StepsFrom.{no_joint_steps, adds_joint_steps}
use Rattle.lois_shortest_word.proofs.joint_steps.add_joint_steps.Goals as goal

pub returns-in_default : goal.returns-in_default
returns-in_default g c =
    let k = c.args.comp.now in
    no_joint_steps c.args.size k.binders k.guard (tree k.item) (comps_of c.args.one.now) (comps_of c.args.other.now) (comps_of c.args.made.now) c.in_default.ensures.none

pub add_steps_from-requires-clause-held : goal.add_steps_from-requires-clause-held
add_steps_from-requires-clause-held g c =
    let k = c.args.comp.now in
    let o = g.T.Structure.ordered in
    let is = c.in_ok-here.ensures in
    record {
      set = (more (comp k.binders k.guard (tree k.item)) no_comps, is);
      levels = subst (Fits c.args.size) (sym is) (c.requires.over.levels, tt);
      operators = subst (AdmitsTerm o) (sym is) (c.requires.over.operators, tt);
    }

pub returns : goal.returns
returns g c =
    let n = c.args.size in
    let k = c.args.comp.now in
    let a = tree c.in-Some.first.now in
    let b = tree c.in-Some.second.now in
    let item : tree k.item ≡ pair_of a b = c.in-Some.ensures.some in
    let one = comps_of c.args.one.now in
    let other = comps_of c.args.other.now in
    let mine = comps_of c.in_ok-mine.mine in
    let others = comps_of c.in_ok-others.others in
    let joint = comps_of c.in-Coll.joint in
    let before = comps_of c.args.made.now in
    let after = comps_of c.add_steps_from.new.made in
    let is = ap tree c.in-Coll.is in
    let own = c.in_ok-joint.ensures in
    let beside : AreSideBySide n (coll mine) (coll others) (coll joint) = subst (AreSideBySide n (coll mine) (coll others)) is own.members in
    let fits : Fits n (coll joint) = subst (Fits n) is own.levels in
    let here : tree c.in_ok-here.here ≡ coll (more (comp k.binders k.guard (pair_of a b)) no_comps) = c.in_ok-here.ensures ∙ ap (λ z. coll (more (comp k.binders k.guard z) no_comps)) item in
    IfOk-weaker c.add_steps_from.result (λ _. AddsStepsFrom n (tree c.in_ok-here.here) joint before after) _ (λ _ added.
    subst (λ z. AddsJointSteps n (comp k.binders k.guard z) one other before after) (sym item)
    (adds_joint_steps n k.binders k.guard a b one other mine others joint c.in_ok-mine.ensures c.in_ok-others.ensures beside before after fits
    (λ o p q. subst (AdmitsTerm o) is (own.operators o p q)) (λ p q. subst HasBoundedWidths is (own.widths p q))
    (subst (λ z. AddsStepsFrom n z joint before after) here added))) c.add_steps_from.ensures
