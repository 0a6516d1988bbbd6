use Rattle.std.proofs.Common.{◌+◌, ap, arith}
use Rattle.lois_base.specs.Data.{comps_of}
use Rattle.lois_base.specs.Tree.{tree}
use Rattle.lois_relate.proofs.Parts.{comps_from, comps_are, no_comps_left, is_comp_of}
use Rattle.lois_algebra.proofs.GatheredMembers.{items_more, items_end, joined_fits}
use Rattle.lois_algebra.proofs.Selections.{put_item}
use Rattle.lois_algebra.proofs.gathering.gather_items.Goals as goal

pub overflow_add-binders : goal.overflow_add-binders
overflow_add-binders c =
    let k = is_comp_of c.as_slice-inner-items.result.now c.args.items.now c.loop-inner.inner-index c.inner-item.result c.as_slice-inner-items.ensures c.loop-inner-test.true c.inner-item.is in
    omega (arith, (k.fits (c.args.size + c.args.comp.now.binders) c.requires.items).0)

pub loop-inner-preserved : goal.loop-inner-preserved
loop-inner-preserved c =
    let items = c.as_slice-inner-items.result.now in
    let i = c.loop-inner.inner-index in
    let comp = c.args.comp.now in
    let inner = c.inner-item.result in
    let k = is_comp_of items c.args.items.now i inner c.as_slice-inner-items.ensures c.loop-inner-test.true c.inner-item.is in
    let fits = k.fits (c.args.size + comp.binders) c.requires.items in
    let put = put_item (comp.binders + inner.binders) c.in_ok-guard.guard (tree inner.item) (tree c.in_ok-item.item) (comps_of c.loop-inner.gathered) (comps_of c.push_comp.new.comps) (ap tree c.in_ok-item.ensures) c.in_ok-push_comp.ensures.added in
    items_more c.args.size comp.binders comp.guard (comps_from items i) (comps_from items (i + 1)) (comps_of c.args.items.now) _ (comps_of c.loop-inner.gathered) (comps_of c.push_comp.new.comps) inner.binders inner.guard c.in_ok-guard.guard (tree inner.item) (comps_are items i inner c.loop-inner-test.true c.inner-item.is) c.loop-inner.invariant c.requires.guard c.in_ok-guard.ensures.truth (joined_fits c.args.size comp.binders inner.binders comp.guard inner.guard c.in_ok-guard.guard (tree inner.item) c.requires.guard fits c.in_ok-guard.ensures.fits) (λ o a h. (c.in_ok-guard.ensures.operators o a (k.admits o h).0, (k.admits o h).1)) k.widths put

pub returns : goal.returns
returns c =
    items_end c.args.size c.args.comp.now.binders c.args.comp.now.guard (comps_from c.as_slice-inner-items.result.now c.loop-inner.inner-index) (comps_of c.args.items.now) _ (comps_of c.loop-inner.gathered) (no_comps_left c.as_slice-inner-items.result.now c.loop-inner.inner-index (omega arith)) c.loop-inner.invariant
