use Rattle.std.proofs.Common.{◌≡◌, [], ◌∷◌, ◌++◌, ◌+◌, take, map, sym, subst, arith}
use Rattle.std.proofs.lemmas.Result.{IfOk-weaker}
use Rattle.lois_base.specs.Data.{comp}
use Rattle.lois_base.specs.Tree.{tree, comp_of}
use Rattle.lois_base.proofs.Viewed.{one_more, all_taken}
use Rattle.lois_relate.proofs.Parts.{is_part_of, is_comp_of}
use Rattle.lois_readable.specs.Joined.{IsKept}
use Rattle.lois_readable.proofs.Joined.{item_joined, one_put}
use Rattle.lois_readable.proofs.Tuples.{ArePartsKept, part_kept, tuple_of_kept}
use Rattle.lois_simplify.specs.Simplification.{set_of}
use Rattle.lois_readable.proofs.joining.+joining.Goals as goal

pub join_parts-join-requires : goal.join_parts-join-requires
join_parts-join-requires t c =
    let items = c.as_slice-part-items.result.now in
    let part = is_part_of items c.args.parts.now c.loop-part.part-index c.part-item.result c.as_slice-part-items.ensures c.loop-part-test.true c.part-item.is in
    (omega (arith, part.depth), tt)

pub join_comps-join_item-requires : goal.join_comps-join_item-requires
join_comps-join_item-requires t c =
    let items = c.as_slice-comp-items.result.now in
    let comp = is_comp_of items c.args.comps.now c.loop-comp.comp-index c.comp-item.result c.as_slice-comp-items.ensures c.loop-comp-test.true c.comp-item.is in
    (omega (arith, comp.depth), tt)

pub join_item-returns : goal.join_item-returns
join_item-returns t c =
    let k = c.args.comp.now in
    let s = tree c.in_ok-join.field-0 in
    subst (λ g. IsKept (set_of (comp_of k ∷ [])) (set_of (comp k.binders g s ∷ []))) (sym c.in_ok-copy.ensures) (item_joined k.binders k.guard (tree k.item) s c.in_ok-join.ensures)

pub join_parts-loop-part-preserved : goal.join_parts-loop-part-preserved
join_parts-loop-part-preserved t c = λ n.
    let items = c.as_slice-part-items.result.now in
    let i = c.loop-part.part-index in
    let p = c.part-item.result in
    let s = c.in_ok-join.field-0 in
    let done = map tree (take i items) in
    let seen : map tree (take (i + 1) items) ≡ done ++ tree p ∷ [] = one_more tree items i p c.loop-part-test.true c.part-item.is in
    subst (λ z. ArePartsKept ([] ∷ []) n z c.push.new.self) (sym seen)
    (subst (ArePartsKept ([] ∷ []) n (done ++ tree p ∷ [])) (sym c.in_ok-push.ensures.ok) (part_kept ([] ∷ []) n done c.loop-part.joined (tree p) (tree s) (c.loop-part.invariant n) (c.in_ok-join.ensures.everywhere n)))

pub join_parts-returns : goal.join_parts-returns
join_parts-returns t c =
    let seen = all_taken tree c.as_slice-part-items.result.now c.args.parts.now c.loop-part.part-index c.as_slice-part-items.ensures c.loop-part-test.false in
    record {
      everywhere = λ n. tuple_of_kept ([] ∷ []) n c.args.parts.now c.loop-part.joined (subst (λ z. ArePartsKept ([] ∷ []) n z c.loop-part.joined) seen (c.loop-part.invariant n));
    }

pub join_comps-loop-comp-preserved : goal.join_comps-loop-comp-preserved
join_comps-loop-comp-preserved t c =
    let items = c.as_slice-comp-items.result.now in
    let i = c.loop-comp.comp-index in
    let k = c.comp-item.result in
    let done = map comp_of (take i items) in
    let seen : map comp_of (take (i + 1) items) ≡ done ++ comp_of k ∷ [] = one_more comp_of items i k c.loop-comp-test.true c.comp-item.is in
    one_put done (map comp_of (take (i + 1) items)) (map comp_of c.loop-comp.joined.items) (map comp_of c.put_joined.new.joined.items) (comp_of k) (comp_of c.in_ok-own.own) seen c.loop-comp.invariant c.in_ok-own.ensures c.in_ok-put_joined.ensures

pub join_comps-returns : goal.join_comps-returns
join_comps-returns t c =
    let joined = map comp_of c.loop-comp.joined.items in
    let seen = all_taken comp_of c.as_slice-comp-items.result.now c.args.comps.now c.loop-comp.comp-index c.as_slice-comp-items.ensures c.loop-comp-test.false in
    let kept : IsKept (set_of c.args.comps.now) (set_of joined) = subst (λ z. IsKept (set_of z) (set_of joined)) seen c.loop-comp.invariant in
    IfOk-weaker c.comps_from.result (λ r. r ≡ joined) (λ r. IsKept (set_of c.args.comps.now) (set_of r)) (λ r e. subst (λ z. IsKept (set_of c.args.comps.now) (set_of z)) (sym e) kept) c.comps_from.ensures
