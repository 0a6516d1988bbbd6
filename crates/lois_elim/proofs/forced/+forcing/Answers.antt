use Rattle.std.proofs.Common.{◌<◌, length, arith}
use Rattle.lois_base.specs.FormulaView.{views}
use Rattle.lois_base.proofs.FormulaViews.{formula_within}
use Rattle.lois_elim.proofs.Forcing.{all_force}
use Rattle.lois_elim.proofs.forced.+forcing.Goals as goal

pub forced_by_one-forced-requires : goal.forced_by_one-forced-requires
forced_by_one-forced-requires t c =
    let below : c.loop-part.part-index < length c.as_slice-part-items.result.now = omega arith in
    let h = formula_within _ _ _ _ c.as_slice-part-items.ensures below c.part-item.is in
    (omega (arith, h), tt)

pub forced_by_one-returns-in-Some-clause-forced : goal.forced_by_one-returns-in-Some-clause-forced
forced_by_one-returns-in-Some-clause-forced t c =
    let items = c.as_slice-part-items.result.now in
    let below : c.loop-part.part-index < length items = omega arith in
    all_force items (views c.args.parts.now) c.loop-part.part-index c.part-item.result c.args.level c.in-Some.lower c.as_slice-part-items.ensures below c.part-item.is c.in-Some.ensures.forced
