use Rattle.std.proofs.Common.{arith}
use Rattle.lois_base.proofs.Parts.{term_within, comp_item_within}
use Rattle.lois_readable.proofs.surroundings.+surroundings.Goals as goal

pub short_parts-short_under-requires : goal.short_parts-short_under-requires
short_parts-short_under-requires t c =
    let h = term_within _ _ _ _ c.as_slice-part-items.ensures c.loop-part-test.true c.part-item.is in
    omega (arith, h)

pub short_items-short_comp-requires : goal.short_items-short_comp-requires
short_items-short_comp-requires t c =
    let h = comp_item_within _ _ _ _ c.as_slice-comp-items.ensures c.loop-comp-test.true c.comp-item.is in
    omega (arith, h)
