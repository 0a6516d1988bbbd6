use Rattle.std.proofs.Common.{◌≡◌, sym, ap, ◌∙◌, subst}
use Rattle.std.proofs.lemmas.Result.{IfOk-weaker}
use Rattle.lois_base.specs.Fits.{ConstraintFits}
use Rattle.lois_base.specs.Truth.{holds}
use Rattle.lois_simplify.proofs.Always.{always_adds_nothing}
use Rattle.lois_simplify.proofs.guards.inside.Goals as goal

pub returns-then-branch-clause-truth : goal.returns-then-branch-clause-truth
returns-then-branch-clause-truth c =
    let u = c.args.under.now in
    let g = c.args.guard.now in
    IfOk-weaker c.copy.result (λ r. r ≡ u) _ (λ r e d. ap (holds d) e ∙ always_adds_nothing u g (c.in_ok-is_always.ensures c.if-branch.true) d) c.copy.ensures

pub returns-then-branch-clause-fits : goal.returns-then-branch-clause-fits
returns-then-branch-clause-fits c =
    IfOk-weaker c.copy.result (λ r. r ≡ c.args.under.now) _ (λ r e n f g. subst (ConstraintFits n) (sym e) f) c.copy.ensures
