use Rattle.std.proofs.Common.{arith}
use Rattle.lois_base.proofs.Parts.{term_within, comp_item_within}
use Rattle.lois_answers.proofs.sound.+widths.Goals as goal

pub parts_have_usual_widths-has_usual_widths-requires : goal.parts_have_usual_widths-has_usual_widths-requires
parts_have_usual_widths-has_usual_widths-requires t c =
    omega (arith, term_within _ _ _ _ c.as_slice-part-items.ensures c.loop-part-test.true c.part-item.is)

pub items_have_usual_widths-has_usual_widths-requires : goal.items_have_usual_widths-has_usual_widths-requires
items_have_usual_widths-has_usual_widths-requires t c =
    omega (arith, comp_item_within _ _ _ _ c.as_slice-comp-items.ensures c.loop-comp-test.true c.comp-item.is)
