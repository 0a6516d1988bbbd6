use Rattle.std.proofs.Common.{arith}
use Rattle.std.proofs.lemmas.Grind.{common_steps}
use Rattle.lois_base.proofs.Parts.{term_within, comp_item_within}
use Rattle.lois_terms.proofs.shifting.+shift.Goals as goal

pub shifted_terms-shifted_term-requires : goal.shifted_terms-shifted_term-requires
shifted_terms-shifted_term-requires t c =
    let h = term_within _ _ _ _ c.as_slice-part-items.ensures c.loop-part-test.true c.part-item.is in
    (omega (arith, h), grind (arith, common_steps))

pub shifted_comps-shifted_comp-requires : goal.shifted_comps-shifted_comp-requires
shifted_comps-shifted_comp-requires t c =
    let h = comp_item_within _ _ _ _ c.as_slice-comp-items.ensures c.loop-comp-test.true c.comp-item.is in
    (omega (arith, h), grind (arith, common_steps))
