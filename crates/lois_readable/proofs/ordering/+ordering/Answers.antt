use Rattle.std.proofs.Common.{arith}
use Rattle.lois_base.proofs.Parts.{term_within, comp_item_within}
use Rattle.lois_relate.proofs.Parts.{is_part_of, is_comp_of}
use Rattle.lois_readable.proofs.ordering.+ordering.Goals as goal

pub parts_have_order-has_order-requires : goal.parts_have_order-has_order-requires
parts_have_order-has_order-requires t c =
    let h = term_within _ _ _ _ c.as_slice-part-items.ensures c.loop-part-test.true c.part-item.is in
    omega (arith, h)

pub items_have_order-comp_has_order-requires : goal.items_have_order-comp_has_order-requires
items_have_order-comp_has_order-requires t c =
    let h = comp_item_within _ _ _ _ c.as_slice-comp-items.ensures c.loop-comp-test.true c.comp-item.is in
    omega (arith, h)

pub parts_have_order-returns-then-has_order : goal.parts_have_order-returns-then-has_order
parts_have_order-returns-then-has_order t c =
    let part = is_part_of c.as_slice-part-items.result.now c.args.parts.now c.loop-part.part-index c.part-item.result c.as_slice-part-items.ensures c.loop-part-test.true c.part-item.is in
    λ h o all. c.has_order.ensures c.if-has_order.true o (part.admits o all)

pub items_have_order-returns-then-comp_has_order : goal.items_have_order-returns-then-comp_has_order
items_have_order-returns-then-comp_has_order t c =
    let comp = is_comp_of c.as_slice-comp-items.result.now c.args.comps.now c.loop-comp.comp-index c.comp-item.result c.as_slice-comp-items.ensures c.loop-comp-test.true c.comp-item.is in
    λ h o all. c.comp_has_order.ensures c.if-comp_has_order.true o (comp.admits o all)
