use Rattle.std.proofs.Common.{arith}
use Rattle.lois_base.proofs.Parts.{term_within, comp_item_within}
use Rattle.lois_readable.proofs.weights.+weights.Goals as goal

pub parts_weight-weight-requires : goal.parts_weight-weight-requires
parts_weight-weight-requires t c =
    let h = term_within _ _ _ _ c.as_slice-part-items.ensures c.loop-part-test.true c.part-item.is in
    omega (arith, h)

pub items_weight-comp_weight-requires : goal.items_weight-comp_weight-requires
items_weight-comp_weight-requires t c =
    let h = comp_item_within _ _ _ _ c.as_slice-comp-items.ensures c.loop-comp-test.true c.comp-item.is in
    omega (arith, h)
