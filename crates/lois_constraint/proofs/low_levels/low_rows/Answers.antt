use Rattle.std.proofs.Common.{◌≡◌, List, length, arith}
use Rattle.std.proofs.lemmas.Grind.{common_steps}
use Rattle.lois_constraint.specs.Order.{Row}
use Rattle.lois_constraint.proofs.LowOrders.{rows_of_word}
use Rattle.lois_constraint.proofs.low_levels.low_rows.Goals as goal

pub returns : goal.returns
returns c =
    let rows : List Row = c.loop-level.rows.items in
    let all : c.loop-level.level ≡ 8 = grind (arith, common_steps) in
    let count : length rows ≡ 8 = grind (arith, common_steps) in
    rows_of_word c.args.word rows count (λ a l. c.loop-level.invariant.rows a (omega (arith, all)))
