use Rattle.std.proofs.Common.{arith}
use Rattle.lois_base.proofs.Parts.{term_within, comp_item_within}
use Rattle.lois_answers.proofs.sound.+strict.Goals as goal

pub are_strict_parts-is_strict_term-requires : goal.are_strict_parts-is_strict_term-requires
are_strict_parts-is_strict_term-requires t c =
    omega (arith, term_within _ _ _ _ c.as_slice-part-items.ensures c.loop-part-test.true c.part-item.is)

pub are_strict_items-is_strict_comp-requires : goal.are_strict_items-is_strict_comp-requires
are_strict_items-is_strict_comp-requires t c =
    omega (arith, comp_item_within _ _ _ _ c.as_slice-comp-items.ensures c.loop-comp-test.true c.comp-item.is)
