use Rattle.std.proofs.Common.{arith}
use Rattle.lois_base.proofs.Parts.{term_within, comp_item_within}
use Rattle.lois_readable.proofs.alike.+alike.Goals as goal

pub has_alike_in_parts-has_alike-requires : goal.has_alike_in_parts-has_alike-requires
has_alike_in_parts-has_alike-requires t c =
    let h = term_within _ _ _ _ c.as_slice-part-items.ensures c.loop-part-test.true c.part-item.is in
    omega (arith, h)

pub has_alike_comps-has_alike-requires : goal.has_alike_comps-has_alike-requires
has_alike_comps-has_alike-requires t c =
    let h = comp_item_within _ _ _ _ c.as_slice-comp-items.ensures c.loop-comp-test.true c.comp-item.is in
    omega (arith, h)
