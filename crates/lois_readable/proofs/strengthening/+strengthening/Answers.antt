use Rattle.std.proofs.Common.{◌≡◌, [], ◌∷◌, ◌++◌, ◌+◌, take, map, sym, subst, arith}
use Rattle.lois_base.specs.Data.{comp}
use Rattle.lois_base.specs.Tree.{tree, comp_of}
use Rattle.lois_base.proofs.Validity.{fits_longer}
use Rattle.lois_base.proofs.Viewed.{one_more, all_taken}
use Rattle.lois_relate.proofs.Parts.{is_part_of, is_comp_of}
use Rattle.lois_simplify.specs.Simplification.{set_of}
use Rattle.lois_simplify.proofs.Kept.{kept_trans}
use Rattle.lois_simplify.proofs.OneRound.{item_kept}
use Rattle.lois_readable.proofs.Parted.{put_one, done_more}
use Rattle.lois_readable.proofs.Strengthened.{guard_replaced}
use Rattle.lois_readable.proofs.Tuples.{ArePartsKept, part_kept, tuple_of_kept}
use Rattle.lois_readable.proofs.strengthening.+strengthening.Goals as goal

pub strengthen_parts-strengthen-requires : goal.strengthen_parts-strengthen-requires
strengthen_parts-strengthen-requires t c =
    let items = c.as_slice-part-items.result.now in
    let part = is_part_of items c.args.parts.now c.loop-part.part-index c.part-item.result c.as_slice-part-items.ensures c.loop-part-test.true c.part-item.is in
    (omega (arith, part.depth), (part.fits c.args.size c.requires.levels, c.requires.under_levels))

pub strengthen_comps-strengthen_comp-requires : goal.strengthen_comps-strengthen_comp-requires
strengthen_comps-strengthen_comp-requires t c =
    let items = c.as_slice-comp-items.result.now in
    let comp = is_comp_of items c.args.comps.now c.loop-comp.comp-index c.comp-item.result c.as_slice-comp-items.ensures c.loop-comp-test.true c.comp-item.is in
    (omega (arith, comp.depth), (comp.fits c.args.size c.requires.levels, c.requires.under_levels))

pub strengthen_comp-strengthen-requires : goal.strengthen_comp-strengthen-requires
strengthen_comp-strengthen-requires t c =
    let n = c.args.size in
    let k = c.args.comp.now in
    let around = fits_longer n k.binders c.args.under.now c.requires.under_levels in
    let guard = c.in_ok-guard.ensures.levels (n + k.binders) around (c.requires.levels).1 in
    (omega arith, ((c.requires.levels).2, c.in_ok-here.ensures.fits (n + k.binders) around guard))

pub strengthen_comp-returns : goal.strengthen_comp-returns
strengthen_comp-returns t c =
    let u = c.args.under.now in
    let n = c.args.size in
    let k = c.args.comp.now in
    let m = k.binders in
    let h = c.in_ok-guard.guard in
    let s = tree c.in_ok-item.item in
    kept_trans u n (set_of (comp_of k ∷ [])) (set_of (comp m h (tree k.item) ∷ [])) (set_of (comp m h s ∷ []))
    (guard_replaced u m k.guard (tree k.item) n h c.requires.under_levels c.in_ok-guard.ensures)
    (item_kept u n m h c.in_ok-here.here (tree k.item) s c.requires.under_levels c.in_ok-here.ensures.truth c.in_ok-item.ensures)

pub strengthen_parts-returns : goal.strengthen_parts-returns
strengthen_parts-returns t c =
    let u = c.args.under.now in
    let n = c.args.size in
    let seen = all_taken tree c.as_slice-part-items.result.now c.args.parts.now c.loop-part.part-index c.as_slice-part-items.ensures c.loop-part-test.false in
    tuple_of_kept u n c.args.parts.now c.loop-part.strong (subst (λ z. ArePartsKept u n z c.loop-part.strong) seen c.loop-part.invariant)

pub strengthen_comps-loop-comp-preserved : goal.strengthen_comps-loop-comp-preserved
strengthen_comps-loop-comp-preserved t c =
    let u = c.args.under.now in
    let n = c.args.size in
    let items = c.as_slice-comp-items.result.now in
    let i = c.loop-comp.comp-index in
    let k = c.comp-item.result in
    let r = comp_of c.in_ok-strengthen_comp.field-0 in
    let before = c.loop-comp.strong in
    let seen : map comp_of (take (i + 1) items) ≡ map comp_of (take i items) ++ comp_of k ∷ [] = one_more comp_of items i k c.loop-comp-test.true c.comp-item.is in
    done_more u n (map comp_of (take i items)) (map comp_of (take (i + 1) items)) before c.push.new.self (comp_of k) seen c.loop-comp.invariant
    (put_one u n before c.push.new.self (comp_of k) r c.in_ok-push.ensures.ok c.in_ok-strengthen_comp.ensures)

pub strengthen_parts-loop-part-preserved : goal.strengthen_parts-loop-part-preserved
strengthen_parts-loop-part-preserved t c =
    let u = c.args.under.now in
    let n = c.args.size in
    let items = c.as_slice-part-items.result.now in
    let i = c.loop-part.part-index in
    let p = c.part-item.result in
    let s = c.in_ok-strengthen.field-0 in
    let done = map tree (take i items) in
    let seen : map tree (take (i + 1) items) ≡ done ++ tree p ∷ [] = one_more tree items i p c.loop-part-test.true c.part-item.is in
    subst (λ z. ArePartsKept u n z c.push.new.self) (sym seen)
    (subst (ArePartsKept u n (done ++ tree p ∷ [])) (sym c.in_ok-push.ensures.ok) (part_kept u n done c.loop-part.strong (tree p) (tree s) c.loop-part.invariant c.in_ok-strengthen.ensures))
