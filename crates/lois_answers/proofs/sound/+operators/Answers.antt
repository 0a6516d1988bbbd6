use Rattle.std.proofs.Common.{arith}
use Rattle.lois_base.proofs.Parts.{term_within, comp_item_within}
use Rattle.lois_answers.proofs.sound.+operators.Goals as goal

pub admits_parts-admits_term-requires : goal.admits_parts-admits_term-requires
admits_parts-admits_term-requires t c =
    omega (arith, term_within _ _ _ _ c.as_slice-part-items.ensures c.loop-part-test.true c.part-item.is)

pub admits_items-admits_comp-requires : goal.admits_items-admits_comp-requires
admits_items-admits_comp-requires t c =
    omega (arith, comp_item_within _ _ _ _ c.as_slice-comp-items.ensures c.loop-comp-test.true c.comp-item.is)
