use Rattle.std.proofs.Common.{◌<◌, length, arith}
use Rattle.lois_base.proofs.FormulaViews.{formula_within}
use Rattle.lois_vectors_sets.proofs.relate.+trying.Goals as goal

pub some_is-holds-requires : goal.some_is-holds-requires
some_is-holds-requires t c =
    let below : c.loop-part.part-index < length c.as_slice-part-items.result.now = omega arith in
    let h = formula_within _ _ _ _ c.as_slice-part-items.ensures below c.part-item.is in
    omega (arith, h)
