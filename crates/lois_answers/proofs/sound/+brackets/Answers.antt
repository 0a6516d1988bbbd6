use Rattle.std.proofs.Common.{arith}
use Rattle.lois_base.proofs.Parts.{term_within, comp_item_within}
use Rattle.lois_answers.proofs.sound.+brackets.Goals as goal

pub parts_open_at_most-opens_at_most-requires : goal.parts_open_at_most-opens_at_most-requires
parts_open_at_most-opens_at_most-requires t c =
    omega (arith, term_within _ _ _ _ c.as_slice-part-items.ensures c.loop-part-test.true c.part-item.is)

pub items_open_at_most-opens_at_most-requires : goal.items_open_at_most-opens_at_most-requires
items_open_at_most-opens_at_most-requires t c =
    omega (arith, comp_item_within _ _ _ _ c.as_slice-comp-items.ensures c.loop-comp-test.true c.comp-item.is)
