use Rattle.std.proofs.Common.{ℕ}
use Rattle.lois_simplify.proofs.Tied.{shared_holds}
use Rattle.lois_simplify.proofs.fixing.tied_binder.Goals as goal

pub returns-then-each_has-clause-tied : goal.returns-then-each_has-clause-tied
returns-then-each_has-clause-tied c =
    λ n a l t. c.in-Some-tie_of.ensures.tied a (shared_holds a c.args.guard.now _ (c.each_has.ensures.0 c.if-each_has.true) t)
