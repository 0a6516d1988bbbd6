use Rattle.std.proofs.Common.{ap, ◌∙◌, sym}
use Rattle.lois_constraint.specs.Order.{linked}
use Rattle.lois_constraint.specs.LevelOrders.{is_at_most}
use Rattle.lois_constraint.proofs.LowOrders.{word_linked}
use Rattle.lois_constraint.proofs.level_order.LevelOrder.link.Goals as goal

pub returns-then-high-lt-LOW_LEVELS : goal.returns-then-high-lt-LOW_LEVELS
returns-then-high-lt-LOW_LEVELS c = λ a b.
    word_linked c.in-Low.word c.link_low.result c.args.low c.args.high c.if-low-lt-LOW_LEVELS.true c.if-high-lt-LOW_LEVELS.true c.link_low.ensures a b ∙ ap (λ o. linked c.args.low c.args.high (is_at_most o) a b) (sym c.in-Low.is)
