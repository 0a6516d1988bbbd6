use Rattle.std.proofs.Common.{subst}
use Rattle.lois_constraint.specs.Signature.{HasOrderBits}
use Rattle.lois_constraint.proofs.SignatureBits.{equal_met}
use Rattle.lois_constraint.proofs.signature.SignatureMask.of_literal.Goals as goal

pub returns-in-Eq : goal.returns-in-Eq
returns-in-Eq c = λ order shows.
    let lit = c.args.lit in
    equal_met order c.bit-up.result c.bit-down.result lit.left lit.right (λ a b. subst (λ o. HasOrderBits order o lit.left lit.right) c.in-Eq.is (shows a b)) c.bit-up.ensures c.bit-down.ensures
