use Rattle.std.proofs.Common.{◌≡◌, ◌+◌, sym, subst, ap, ◌∙◌}
use Rattle.std.proofs.lemmas.Result.{IfOk-weaker}
use Rattle.std.specs.Prelude.{slice_get}
use Rattle.lois_base.specs.Data.{coll, comp, comps_of}
use Rattle.lois_base.specs.Tree.{tree}
use Rattle.lois_algebra.specs.Gathered.{IsPut}
use Rattle.lois_automata.proofs.Targets.{no_targets, no_sources, adds_target}
use Rattle.lois_automata.specs.Built.{AddsTarget}
use Rattle.lois_automata.specs.Projections.{pair_of}
use Rattle.lois_minimise.specs.Classes.{AddsTold}
use Rattle.lois_minimise.proofs.Matching.{matching_all}
use Rattle.lois_minimise.proofs.OfShape.{none_from, none_to}
use Rattle.lois_minimise.proofs.telling.add_told.Goals as goal

pub returns-in_default : goal.returns-in_default
returns-in_default g c = λ left are.
    let k = c.args.comp.now in
    let told = comps_of c.args.told.now in
    matching_all c.args.size _ _ _ _ _ told told (no_targets c.args.size k.binders k.guard (tree k.item) (coll (comps_of c.args.held.now)) told c.in_default.ensures.none)

pub returns-then-not-has_shape : goal.returns-then-not-has_shape
returns-then-not-has_shape g c = λ left are.
    let k = c.args.comp.now in
    let told = comps_of c.args.told.now in
    let held = c.args.held.now in
    subst (λ z. AddsTold c.args.size (comp k.binders k.guard z) (coll (comps_of held)) (coll (comps_of left)) told told) (sym c.in-Some.ensures.some)
    (none_from c.args.size k.binders k.guard (tree c.in-Some.from.now) (tree c.in-Some.to.now) held left told
    (λ i at. let found = c.has_shape.ensures i (ap (λ z. slice_get z i) c.requires.shapes ∙ at) in let missed = c.if-not-has_shape.true in absurd (cc)))

pub returns-then-not-has_shape-2 : goal.returns-then-not-has_shape-2
returns-then-not-has_shape-2 g c = λ left are.
    let k = c.args.comp.now in
    let told = comps_of c.args.told.now in
    let held = c.args.held.now in
    subst (λ z. AddsTold c.args.size (comp k.binders k.guard z) (coll (comps_of held)) (coll (comps_of left)) told told) (sym c.in-Some.ensures.some)
    (none_to c.args.size k.binders k.guard (tree c.in-Some.from.now) (tree c.in-Some.to.now) held left told
    (λ i at. let found = c.has_shape-2.ensures i (ap (λ z. slice_get z i) are ∙ at) in let missed = c.if-not-has_shape-2.true in absurd (cc)))

pub returns-then-len-eq0 : goal.returns-then-len-eq0
returns-then-len-eq0 g c = λ left are.
    let k = c.args.comp.now in
    let a = tree c.in-Some.from.now in
    let b = tree c.in-Some.to.now in
    let held = coll (comps_of c.args.held.now) in
    let told = comps_of c.args.told.now in
    matching_all c.args.size _ _ _ _ _ told told
    (subst (λ z. AddsTarget c.args.size (comp k.binders k.guard z) held told told) (sym c.in-Some.ensures.some) (no_sources c.args.size k.binders k.guard c.in_ok-found.found a b held c.in_ok-found.ensures.truth (sym c.len.ensures ∙ c.if-len-eq0.true) told))

pub returns : goal.returns
returns g c =
    let k = c.args.comp.now in
    let a = tree c.in-Some.from.now in
    let b = tree c.in-Some.to.now in
    let item : tree k.item ≡ pair_of a b = c.in-Some.ensures.some in
    let guard = c.in_ok-guard.guard in
    let n = c.args.size + k.binders in
    let held = coll (comps_of c.args.held.now) in
    let before = comps_of c.args.told.now in
    let after = comps_of c.push_comp.new.comps in
    IfOk-weaker c.push_comp.result (λ _. IsPut (comp k.binders guard (tree c.in_ok-item.item)) before after) _ (λ _ added left are.
    matching_all c.args.size _ _ _ _ _ before after
    (subst (λ z. AddsTarget c.args.size (comp k.binders k.guard z) held before after) (sym item)
    (adds_target c.args.size k.binders k.guard c.in_ok-found.found guard a b held c.in_ok-found.ensures.truth c.in_ok-guard.ensures.truth before after
    (subst (λ z. IsPut (comp k.binders guard (tree z)) before after) c.in_ok-item.ensures added)
    (λ h. c.in_ok-guard.ensures.fits n h c.in_ok-found.ensures.fits)
    (λ o h p q. c.in_ok-guard.ensures.operators o h (c.in_ok-found.ensures.operators o p q))))) c.push_comp.ensures.added
