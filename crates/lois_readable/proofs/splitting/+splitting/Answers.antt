use Rattle.std.proofs.Common.{◌≡◌, [], ◌∷◌, ◌++◌, ◌+◌, take, map, sym, subst, arith}
use Rattle.lois_base.specs.Data.{CompD, comp}
use Rattle.lois_base.specs.Tree.{tree, comp_of}
use Rattle.lois_base.proofs.Validity.{fits_longer}
use Rattle.lois_base.proofs.Viewed.{one_more, all_taken}
use Rattle.lois_deciders.proofs.Oracle.{on_ok}
use Rattle.lois_relate.proofs.Parts.{is_part_of, is_comp_of}
use Rattle.lois_simplify.proofs.OneRound.{item_kept}
use Rattle.lois_readable.proofs.Parted.{put_one, done_more}
use Rattle.lois_readable.proofs.Tuples.{ArePartsKept, part_kept, tuple_of_kept}
use Rattle.lois_readable.proofs.splitting.+splitting.Goals as goal

pub split_parts-split-requires : goal.split_parts-split-requires
split_parts-split-requires t c =
    let items = c.as_slice-part-items.result.now in
    let part = is_part_of items c.args.parts.now c.loop-part.part-index c.part-item.result c.as_slice-part-items.ensures c.loop-part-test.true c.part-item.is in
    (omega (arith, part.depth), (part.fits c.args.size c.requires.levels, c.requires.under_levels))

pub split_comps-put_split-requires : goal.split_comps-put_split-requires
split_comps-put_split-requires t c =
    let items = c.as_slice-comp-items.result.now in
    let comp = is_comp_of items c.args.comps.now c.loop-comp.comp-index c.comp-item.result c.as_slice-comp-items.ensures c.loop-comp-test.true c.comp-item.is in
    (omega (arith, comp.depth), (comp.fits c.args.size c.requires.levels, c.requires.under_levels))

pub put_split-split-requires : goal.put_split-split-requires
put_split-split-requires t c =
    let n = c.args.size in
    let k = c.args.comp.now in
    let around = fits_longer n k.binders c.args.under.now c.requires.under_levels in
    (omega arith, ((c.requires.levels).2, c.in_ok-here.ensures.fits (n + k.binders) around (c.requires.levels).1))

pub put_split-returns : goal.put_split-returns
put_split-returns t c =
    let u = c.args.under.now in
    let n = c.args.size in
    let k = c.args.comp.now in
    let r : CompD = comp k.binders k.guard (tree c.in_ok-item.item) in
    let kept = item_kept u n k.binders k.guard c.in_ok-here.here (tree k.item) (tree c.in_ok-item.item) c.requires.under_levels c.in_ok-here.ensures.truth c.in_ok-item.ensures in
    on_ok c.push.result (c.push.new.self ≡ c.args.parted.now ++ comp k.binders c.in_ok-copy.field-0 (tree c.in_ok-item.item) ∷ []) _
    (λ pushed. put_one u n c.args.parted.now c.push.new.self (comp_of k) r (subst (λ g. c.push.new.self ≡ c.args.parted.now ++ comp k.binders g (tree c.in_ok-item.item) ∷ []) c.in_ok-copy.ensures pushed) kept)
    c.push.ensures.ok

pub split_parts-returns : goal.split_parts-returns
split_parts-returns t c =
    let u = c.args.under.now in
    let n = c.args.size in
    let seen = all_taken tree c.as_slice-part-items.result.now c.args.parts.now c.loop-part.part-index c.as_slice-part-items.ensures c.loop-part-test.false in
    tuple_of_kept u n c.args.parts.now c.loop-part.parted (subst (λ z. ArePartsKept u n z c.loop-part.parted) seen c.loop-part.invariant)

pub split_comps-loop-comp-preserved : goal.split_comps-loop-comp-preserved
split_comps-loop-comp-preserved t c =
    let u = c.args.under.now in
    let n = c.args.size in
    let items = c.as_slice-comp-items.result.now in
    let i = c.loop-comp.comp-index in
    let k = c.comp-item.result in
    let seen : map comp_of (take (i + 1) items) ≡ map comp_of (take i items) ++ comp_of k ∷ [] = one_more comp_of items i k c.loop-comp-test.true c.comp-item.is in
    done_more u n (map comp_of (take i items)) (map comp_of (take (i + 1) items)) c.loop-comp.parted c.put_split.new.parted (comp_of k) seen c.loop-comp.invariant c.in_ok-put_split.ensures

pub split_parts-loop-part-preserved : goal.split_parts-loop-part-preserved
split_parts-loop-part-preserved t c =
    let u = c.args.under.now in
    let n = c.args.size in
    let items = c.as_slice-part-items.result.now in
    let i = c.loop-part.part-index in
    let p = c.part-item.result in
    let s = c.in_ok-split.field-0 in
    let done = map tree (take i items) in
    let seen : map tree (take (i + 1) items) ≡ done ++ tree p ∷ [] = one_more tree items i p c.loop-part-test.true c.part-item.is in
    subst (λ z. ArePartsKept u n z c.push.new.self) (sym seen)
    (subst (ArePartsKept u n (done ++ tree p ∷ [])) (sym c.in_ok-push.ensures.ok) (part_kept u n done c.loop-part.parted (tree p) (tree s) c.loop-part.invariant c.in_ok-split.ensures))
