use Rattle.std.proofs.Common.{◌≡◌, ◌+◌, ap, sym, subst, ◌∙◌}
use Rattle.std.proofs.lemmas.Result.{IfOk-weaker}
use Rattle.lois_base.specs.Data.{comp, comps_of}
use Rattle.lois_base.specs.Tree.{tree}
use Rattle.lois_algebra.specs.Gathered.{IsPut}
use Rattle.lois_automata.specs.Projections.{triple_of}
use Rattle.lois_shortest_word.specs.Pairs.{AddsStepFrom}
use Rattle.lois_shortest_word.proofs.StepsFrom.{no_step_from, none_begins, adds_step_from}
use Rattle.lois_shortest_word.proofs.joint_steps.add_step_from.Goals as goal

pub returns-in_default : goal.returns-in_default
returns-in_default g c =
    let k = c.args.comp.now in
    no_step_from c.args.size k.binders k.guard (tree k.item) (tree c.args.held.now) (comps_of c.args.made.now) c.in_default.ensures.none

pub returns-then-len-eq0 : goal.returns-then-len-eq0
returns-then-len-eq0 g c =
    let k = c.args.comp.now in
    let step = c.in-Some.step in
    let held = tree c.args.held.now in
    let made = comps_of c.args.made.now in
    subst (λ z. AddsStepFrom c.args.size (comp k.binders k.guard z) held made made) (sym c.in-Some.ensures.some)
    (none_begins c.args.size k.binders k.guard c.in_ok-found.found (tree step.source.now) (tree step.letter.now) (tree step.target.now) held c.in_ok-found.ensures.truth (sym c.len.ensures ∙ c.if-len-eq0.true) made)

pub returns : goal.returns
returns g c =
    let k = c.args.comp.now in
    let step = c.in-Some.step in
    let p = tree step.source.now in
    let l = tree step.letter.now in
    let q = tree step.target.now in
    let item : tree k.item ≡ triple_of p l q = c.in-Some.ensures.some in
    let guard = c.in_ok-guard.guard in
    let n = c.args.size + k.binders in
    let held = tree c.args.held.now in
    let before = comps_of c.args.made.now in
    let after = comps_of c.push_comp.new.comps in
    IfOk-weaker c.push_comp.result (λ _. IsPut (comp k.binders guard (tree c.in_ok-item.item)) before after) _ (λ _ added.
    subst (λ z. AddsStepFrom c.args.size (comp k.binders k.guard z) held before after) (sym item)
    (adds_step_from c.args.size k.binders k.guard c.in_ok-found.found p l q held c.in_ok-found.ensures.truth guard c.in_ok-guard.ensures.truth before after
    (subst (λ z. IsPut (comp k.binders guard z) before after) (ap tree c.in_ok-item.ensures ∙ item) added)
    (λ h. c.in_ok-guard.ensures.fits n h c.in_ok-found.ensures.fits)
    (λ o h x y. c.in_ok-guard.ensures.operators o h (c.in_ok-found.ensures.operators o x y)))) c.push_comp.ensures.added
