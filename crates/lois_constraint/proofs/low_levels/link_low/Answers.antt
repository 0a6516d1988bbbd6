use Rattle.lois_constraint.proofs.Spread.{linked_at_once}
use Rattle.lois_constraint.proofs.low_levels.link_low.Goals as goal

pub returns : goal.returns
returns c =
    linked_at_once c.args.order c.args.low c.args.high c.low_row.result c.low_row.ensures.low c.low_row.ensures.levels
