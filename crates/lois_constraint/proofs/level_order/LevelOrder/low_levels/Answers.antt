use Rattle.std.proofs.Common.{ap, ◌∙◌, sym}
use Rattle.lois_constraint.specs.LevelOrders.{is_at_most}
use Rattle.lois_constraint.proofs.LowOrders.{full}
use Rattle.lois_constraint.proofs.level_order.LevelOrder.low_levels.Goals as goal

pub returns-in-Low : goal.returns-in-Low
returns-in-Low c = λ a b l m. full c.in-Low.word a b l m ∙ ap (λ o. is_at_most o a b) (sym c.in-Low.is)
