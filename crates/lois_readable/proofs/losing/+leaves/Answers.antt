use Rattle.std.proofs.Common.{arith}
use Rattle.lois_base.proofs.Parts.{term_within, comp_item_within}
use Rattle.lois_readable.proofs.losing.+leaves.Goals as goal

pub is_leaf_of_parts-is_leaf-requires : goal.is_leaf_of_parts-is_leaf-requires
is_leaf_of_parts-is_leaf-requires t c =
    let h = term_within _ _ _ _ c.as_slice-part-items.ensures c.loop-part-test.true c.part-item.is in
    omega (arith, h)

pub is_leaf_of_items-is_leaf-requires : goal.is_leaf_of_items-is_leaf-requires
is_leaf_of_items-is_leaf-requires t c =
    let h = comp_item_within _ _ _ _ c.as_slice-comp-items.ensures c.loop-comp-test.true c.comp-item.is in
    omega (arith, h)
