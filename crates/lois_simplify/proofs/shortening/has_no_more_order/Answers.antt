use Rattle.lois_simplify.proofs.Said.{order_free_anyhow, not_both, no_more_order}
use Rattle.lois_simplify.proofs.shortening.has_no_more_order.Goals as goal

pub returns-then-is_order_free : goal.returns-then-is_order_free
returns-then-is_order_free c = λ t o f. order_free_anyhow c.args.constraint.now (c.is_order_free.ensures.0 c.if-is_order_free.true) o

pub returns : goal.returns
returns c = λ t. no_more_order c.args.guard.now c.args.constraint.now (λ f. not_both c.is_order_free-2.result t (c.is_order_free-2.ensures.1 f))
