use Rattle.std.proofs.Common.{arith}
use Rattle.lois_base.proofs.Parts.{term_within, comp_item_within}
use Rattle.lois_readable.proofs.lines.+pairs.Goals as goal

pub put_pairs_of_parts-put_pairs-requires : goal.put_pairs_of_parts-put_pairs-requires
put_pairs_of_parts-put_pairs-requires t c =
    let h = term_within _ _ _ _ c.as_slice-part-items.ensures c.loop-part-test.true c.part-item.is in
    omega (arith, h)

pub put_pairs_of_items-put_pairs_of_comp-requires : goal.put_pairs_of_items-put_pairs_of_comp-requires
put_pairs_of_items-put_pairs_of_comp-requires t c =
    let h = comp_item_within _ _ _ _ c.as_slice-comp-items.ensures c.loop-comp-test.true c.comp-item.is in
    omega (arith, h)
