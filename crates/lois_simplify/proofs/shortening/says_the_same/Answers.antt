use Rattle.std.proofs.lemmas.Result.{IfOk-weaker}
use Rattle.lois_simplify.proofs.Said.{said_the_same}
use Rattle.lois_simplify.proofs.shortening.says_the_same.Goals as goal

pub returns : goal.returns
returns c =
    IfOk-weaker c.holds_inside-2.result _ _ (λ b yes t. said_the_same c.args.under.now c.args.guard.now c.args.other.now c.in_ok-at_guard.at_guard c.in_ok-at_other.at_other c.in_ok-at_guard.ensures.truth (c.in_ok-holds_inside.ensures c.if-not-branch.false) c.in_ok-at_other.ensures.truth (yes t) (c.uses_only.ensures c.if-not-uses_only.false) (c.has_no_more_order.ensures c.if-not-has_no_more_order.false))
    c.holds_inside-2.ensures
