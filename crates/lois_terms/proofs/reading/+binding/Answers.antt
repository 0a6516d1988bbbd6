use Rattle.std.proofs.Common.{sym, subst, arith}
use Rattle.lois_base.proofs.Parts.{term_within, comp_item_within}
use Rattle.lois_base.specs.Tree.{tree}
use Rattle.lois_terms.specs.Binding.{BindsNothing}
use Rattle.lois_terms.proofs.Unmoved.{unmoved, fits_later}
use Rattle.lois_terms.proofs.reading.+binding.Goals as goal

pub parts_bind_nothing-binds_nothing-requires : goal.parts_bind_nothing-binds_nothing-requires
parts_bind_nothing-binds_nothing-requires t c =
    let h = term_within _ _ _ _ c.as_slice-part-items.ensures c.loop-part-test.true c.part-item.is in
    omega (arith, h)

pub items_bind_nothing-binds_nothing-requires : goal.items_bind_nothing-binds_nothing-requires
items_bind_nothing-binds_nothing-requires t c =
    let h = comp_item_within _ _ _ _ c.as_slice-comp-items.ensures c.loop-comp-test.true c.comp-item.is in
    omega (arith, h)

pub binds_nothing-returns-in-Tup-clause-unchanged : goal.binds_nothing-returns-in-Tup-clause-unchanged
binds_nothing-returns-in-Tup-clause-unchanged t c =
    λ h n by. unmoved n by (tree c.args.t.now) (subst (λ z. BindsNothing (tree z)) (sym c.in-Tup.is) (c.parts_bind_nothing.ensures.0 h))

pub binds_nothing-returns-in-Tup-clause-levels : goal.binds_nothing-returns-in-Tup-clause-levels
binds_nothing-returns-in-Tup-clause-levels t c =
    λ h n k low high. fits_later n k low high (tree c.args.t.now) (subst (λ z. BindsNothing (tree z)) (sym c.in-Tup.is) (c.parts_bind_nothing.ensures.0 h))

pub binds_nothing-returns-in-Coll-clause-unchanged : goal.binds_nothing-returns-in-Coll-clause-unchanged
binds_nothing-returns-in-Coll-clause-unchanged t c =
    λ h n by. unmoved n by (tree c.args.t.now) (subst (λ z. BindsNothing (tree z)) (sym c.in-Coll.is) (c.items_bind_nothing.ensures.0 h))

pub binds_nothing-returns-in-Coll-clause-levels : goal.binds_nothing-returns-in-Coll-clause-levels
binds_nothing-returns-in-Coll-clause-levels t c =
    λ h n k low high. fits_later n k low high (tree c.args.t.now) (subst (λ z. BindsNothing (tree z)) (sym c.in-Coll.is) (c.items_bind_nothing.ensures.0 h))
