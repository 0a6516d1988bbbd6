use Rattle.std.proofs.Common.{◌+◌, sym, subst}
use Rattle.std.proofs.lemmas.Result.{IfOk-weaker}
use Rattle.lois_base.specs.Data.{comp, comps_of}
use Rattle.lois_base.specs.Tree.{tree}
use Rattle.lois_base.specs.Validity.{AdmitsTerm}
use Rattle.lois_algebra.specs.Gathered.{IsPut}
use Rattle.lois_automata.specs.Built.{HoldsWhereMember}
use Rattle.lois_automata.specs.Projections.{pair_of}
use Rattle.lois_equal.specs.Completed.{AddsSinkSteps}
use Rattle.lois_equal.proofs.SinkSteps.{adds_led_out, none_led_out}
use Rattle.lois_equal.proofs.sink_steps.add_step_to_sink.Goals as goal

pub returns-in_default : goal.returns-in_default
returns-in_default g c =
    let k = c.args.comp.now in
    none_led_out c.args.size k.binders k.guard (tree k.item) (tree c.args.there.now) (tree c.args.sink.now) (comps_of c.args.made.now) c.in_default.ensures.none

pub returns : goal.returns
returns g c =
    let k = c.args.comp.now in
    let n = c.args.size in
    let p = tree c.in-Some.state.now in
    let l = tree c.in-Some.letter.now in
    let there = tree c.args.there.now in
    let sink = tree c.args.sink.now in
    let found = c.in_ok-found.found in
    let missing = c.in_ok-missing.missing in
    let guard = c.in_ok-guard.guard in
    let target = tree c.in_ok-target.target in
    let before = comps_of c.args.made.now in
    let after = comps_of c.push_comp.new.comps in
    let is : HoldsWhereMember n k.binders (pair_of p l) there found = subst (λ z. HoldsWhereMember n k.binders z there found) c.in-Some.ensures.some c.in_ok-found.ensures.truth in
    IfOk-weaker c.push_comp.result (λ _. IsPut (comp k.binders guard (tree c.in_ok-item.item)) before after) _ (λ _ added.
    subst (λ z. AddsSinkSteps n (comp k.binders k.guard z) there sink before after) (sym c.in-Some.ensures.some)
    (adds_led_out n k.binders k.guard found missing guard p l target there sink is c.in_ok-missing.ensures.truth c.in_ok-guard.ensures.truth c.in_ok-target.ensures.value before after
    (subst (λ z. IsPut (comp k.binders guard z) before after) c.in_ok-item.ensures added)
    (λ h. c.in_ok-guard.ensures.fits (n + k.binders) h (c.in_ok-missing.ensures.fits (n + k.binders) c.in_ok-found.ensures.fits))
    c.in_ok-target.ensures.fits
    (λ o h a b. c.in_ok-guard.ensures.operators o h (c.in_ok-missing.ensures.operators o (c.in_ok-found.ensures.operators o (subst (λ z. AdmitsTerm o z) (sym c.in-Some.ensures.some) a) b)))
    c.in_ok-target.ensures.operators c.in_ok-target.ensures.widths)) c.push_comp.ensures.added
