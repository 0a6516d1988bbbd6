use Rattle.std.proofs.Common.{arith}
use Rattle.lois_base.proofs.Parts.{term_within, comp_item_within}
use Rattle.lois_answers.proofs.sound.+tags.Goals as goal

pub part_tags_are_names-tags_are_names-requires : goal.part_tags_are_names-tags_are_names-requires
part_tags_are_names-tags_are_names-requires t c =
    omega (arith, term_within _ _ _ _ c.as_slice-part-items.ensures c.loop-part-test.true c.part-item.is)

pub item_tags_are_names-tags_are_names-requires : goal.item_tags_are_names-tags_are_names-requires
item_tags_are_names-tags_are_names-requires t c =
    omega (arith, comp_item_within _ _ _ _ c.as_slice-comp-items.ensures c.loop-comp-test.true c.comp-item.is)
