use Rattle.std.proofs.Common.{◌≤◌, List, length, arith}
use Rattle.std.proofs.lemmas.Grind.{common_steps}
use Rattle.lois_constraint.specs.Order.{Row}
use Rattle.lois_constraint.proofs.Raising.{all_raised}
use Rattle.lois_constraint.proofs.order_closure.raise.Goals as goal

pub returns : goal.returns
returns c =
    let raised : List Row = c.loop-row.rows in
    let whole : length raised ≤ c.loop-row.row-index = grind (arith, common_steps) in
    all_raised c.args.rows.now raised c.args.level c.loop-row.row-index c.args.more.now whole c.loop-row.invariant.below c.loop-row.invariant.above
