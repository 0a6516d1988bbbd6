use Rattle.std.proofs.Common.{◌≡◌, ◌+◌, ap, sym, subst, ◌∙◌}
use Rattle.std.proofs.lemmas.Result.{IfOk-weaker}
use Rattle.lois_base.specs.Data.{comp, comps_of}
use Rattle.lois_base.specs.Tree.{tree}
use Rattle.lois_algebra.specs.Gathered.{IsPut}
use Rattle.lois_automata.specs.Projections.{pair_of}
use Rattle.lois_shortest_word.specs.Pairs.{AddsCommon}
use Rattle.lois_shortest_word.proofs.CommonPairs.{none_common, adds_common}
use Rattle.lois_shortest_word.proofs.meeting.add_common.Goals as goal

pub returns-in_default : goal.returns-in_default
returns-in_default g c =
    let k = c.args.comp.now in
    none_common c.args.size k.binders k.guard (tree k.item) (tree c.args.one.now) (tree c.args.other.now) (comps_of c.args.made.now) c.in_default.ensures.none

pub returns : goal.returns
returns g c =
    let k = c.args.comp.now in
    let a = tree c.in-Some.first.now in
    let b = tree c.in-Some.second.now in
    let item : tree k.item ≡ pair_of a b = c.in-Some.ensures.some in
    let guard = c.in_ok-guard.guard in
    let n = c.args.size + k.binders in
    let one = tree c.args.one.now in
    let other = tree c.args.other.now in
    let before = comps_of c.args.made.now in
    let after = comps_of c.push_comp.new.comps in
    let here = c.in_ok-here.ensures in
    let there = c.in_ok-there.ensures in
    let both = c.in_ok-both.ensures in
    IfOk-weaker c.push_comp.result (λ _. IsPut (comp k.binders guard (tree c.in_ok-item.item)) before after) _ (λ _ added.
    subst (λ z. AddsCommon c.args.size (comp k.binders k.guard z) one other before after) (sym item)
    (adds_common c.args.size k.binders k.guard c.in_ok-here.here c.in_ok-there.there c.in_ok-both.both guard a b one other here.truth there.truth both.truth c.in_ok-guard.ensures.truth before after
    (subst (λ z. IsPut (comp k.binders guard z) before after) (ap tree c.in_ok-item.ensures ∙ item) added)
    (λ h. c.in_ok-guard.ensures.fits n h (both.fits n here.fits there.fits))
    (λ o h x y s t. c.in_ok-guard.ensures.operators o h (both.operators o (here.operators o x s) (there.operators o y t))))) c.push_comp.ensures.added
