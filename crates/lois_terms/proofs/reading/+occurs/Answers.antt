use Rattle.std.proofs.Common.{arith}
use Rattle.lois_base.proofs.Parts.{term_within, comp_item_within}
use Rattle.lois_terms.proofs.reading.+occurs.Goals as goal

pub occurs_in_parts-occurs-requires : goal.occurs_in_parts-occurs-requires
occurs_in_parts-occurs-requires t c =
    let h = term_within _ _ _ _ c.as_slice-part-items.ensures c.loop-part-test.true c.part-item.is in
    omega (arith, h)

pub occurs_in_items-occurs_in_comp-requires : goal.occurs_in_items-occurs_in_comp-requires
occurs_in_items-occurs_in_comp-requires t c =
    let h = comp_item_within _ _ _ _ c.as_slice-comp-items.ensures c.loop-comp-test.true c.comp-item.is in
    omega (arith, h)
