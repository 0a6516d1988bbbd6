use Rattle.std.proofs.Common.{arith}
use Rattle.lois_base.proofs.Parts.{term_within, comp_item_within}
use Rattle.lois_simplify.proofs.moving.+moving.Goals as goal

pub moved_terms-moved_term-requires : goal.moved_terms-moved_term-requires
moved_terms-moved_term-requires t c =
    omega (arith, term_within _ _ _ _ c.as_slice-part-items.ensures c.loop-part-test.true c.part-item.is)

pub moved_comps-moved_comp-requires : goal.moved_comps-moved_comp-requires
moved_comps-moved_comp-requires t c =
    omega (arith, comp_item_within _ _ _ _ c.as_slice-comp-items.ensures c.loop-comp-test.true c.comp-item.is)
