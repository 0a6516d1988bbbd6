use Rattle.std.proofs.Common.{◌∙◌}
use Rattle.lois_constraint.proofs.LowOrders.{full}
use Rattle.lois_constraint.proofs.low_levels.stands_below.Goals as goal

pub returns : goal.returns
returns c = c.has_bit.ensures ∙ full c.args.word c.args.low c.args.high c.requires.low c.requires.high
