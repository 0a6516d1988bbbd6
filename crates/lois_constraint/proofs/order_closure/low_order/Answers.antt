use Rattle.std.proofs.Common.{◌≡◌, ℕ, ◌<◌, ◌≤◌, ◌==◌, min, List, [], length, get_or, arith}
use Rattle.std.proofs.lemmas.Grind.{common_steps}
use Rattle.std.specs.Int.{bit_at}
use Rattle.lois_constraint.specs.Order.{Row, reaches}
use Rattle.lois_constraint.proofs.Lows.{row_below, row_above, all_low}
use Rattle.lois_constraint.proofs.order_closure.low_order.Goals as goal

pub loop-level-preserved : goal.loop-level-preserved
loop-level-preserved c =
    let rows : List Row = c.args.rows.now in
    let low : ℕ = c.low_levels.result in
    let inside : c.loop-level.level < 8 = grind (arith, common_steps) in
    let is : (b : ℕ) → b < 8 → (bit_at low b == 1) ≡ reaches (get_or rows c.loop-level.level []) b = λ b l. grind (arith, common_steps, c.low_levels.ensures.levels b l) in
    record {
      below = row_below rows c.loop-level.order c.loop-level.level low c.low_levels.ensures.low inside is c.loop-level.invariant.below c.loop-level.invariant.above;
      above = row_above rows c.loop-level.order c.loop-level.level low c.low_levels.ensures.low inside c.loop-level.invariant.above;
    }

pub returns : goal.returns
returns c =
    let rows : List Row = c.args.rows.now in
    let whole : min (length rows) 8 ≤ c.loop-level.level = grind (arith, common_steps) in
    all_low rows c.loop-level.order c.loop-level.level whole c.loop-level.invariant.below c.loop-level.invariant.above
