use Rattle.std.proofs.Common.{sym, ◌∙◌}
use Rattle.lois_constraint.specs.LevelOrders.{low_at_most}
use Rattle.lois_constraint.proofs.LowOrders.{right_aside}
use Rattle.lois_constraint.proofs.low_levels.sets_apart.Goals as goal

pub returns-then-not-is_above_one-2 : goal.returns-then-not-is_above_one-2
returns-then-not-is_above_one-2 c =
    right_aside (low_at_most c.args.word) c.args.a c.args.b c.args.lit (sym c.is_above_one-2.ensures ∙ c.if-not-is_above_one-2.true)
