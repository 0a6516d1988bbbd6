use Rattle.std.proofs.Common.{◌==◌, ap}
use Rattle.lois_constraint.proofs.SignatureBits.{has_all, lacks_all}
use Rattle.lois_constraint.proofs.signature.SignatureMask.are_met.Goals as goal

pub returns-then-order-self : goal.returns-then-order-self
returns-then-order-self c = λ meets. ap (λ w. w == 0) (lacks_all c.args.order c.args.self.refused meets.1)

pub returns-else-order-self : goal.returns-else-order-self
returns-else-order-self c = λ meets. absurd (c.if-order-self.false (has_all c.args.order c.args.self.needed meets.0))
