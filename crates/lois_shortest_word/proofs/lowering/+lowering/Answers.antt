use Rattle.std.proofs.Common.{arith}
use Rattle.lois_base.proofs.Parts.{term_within, comp_item_within}
use Rattle.lois_shortest_word.proofs.lowering.+lowering.Goals as goal

pub lowered_terms-lowered_term-requires : goal.lowered_terms-lowered_term-requires
lowered_terms-lowered_term-requires t c =
    omega (arith, term_within _ _ _ _ c.as_slice-part-items.ensures c.loop-part-test.true c.part-item.is)

pub lowered_comps-lowered_comp-requires : goal.lowered_comps-lowered_comp-requires
lowered_comps-lowered_comp-requires t c =
    omega (arith, comp_item_within _ _ _ _ c.as_slice-comp-items.ensures c.loop-comp-test.true c.comp-item.is)
