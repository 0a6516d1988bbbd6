use Rattle.std.proofs.Common.{List, sym, ap, ◌∙◌}
use Rattle.lois_constraint.specs.Order.{Row, at_most, is_implied}
use Rattle.lois_constraint.specs.LevelOrders.{is_at_most}
use Rattle.lois_constraint.proofs.level_order.may_be_implied.Goals as goal

pub returns-in-Low : goal.returns-in-Low
returns-in-Low c = λ no k.
    ap (λ o. is_implied (is_at_most o) k c.args.lit.op c.args.lit.left c.args.lit.right) c.in-Low.is ∙ c.may_be_low_implied.ensures no k

pub returns-in-Far : goal.returns-in-Far
returns-in-Far c = λ no k.
    ap (λ o. is_implied (is_at_most o) k c.args.lit.op c.args.lit.left c.args.lit.right) c.in-Far.is ∙ (ap (λ (r : List Row). is_implied (at_most r) k c.args.lit.op c.args.lit.left c.args.lit.right) (sym c.deref.ensures.value) ∙ c.may_be_implied.ensures no k)
