use Rattle.lois_deciders.specs.Satisfaction.{IsConstraintSample}
use Rattle.lois_deciders.proofs.Oracle.{is_met}
use Rattle.lois_simplify.proofs.Asked.{some_yes}
use Rattle.lois_simplify.proofs.Always.{always_can_be_met}
use Rattle.lois_simplify.proofs.simplifying.is_known_met.Goals as goal

pub returns-then-branch-clause-met : goal.returns-then-branch-clause-met
returns-then-branch-clause-met g c =
    λ t. always_can_be_met c.args.size c.args.under.now (c.in_ok-is_always.ensures c.if-branch.true)

pub returns-clause-met : goal.returns-clause-met
returns-clause-met g c = λ t.
    let s = some_yes (λ v. IsConstraintSample c.args.size c.args.under.now v.items) c.in_ok-sample.sample c.is_some.result c.is_some.ensures t c.in_ok-sample.ensures.some in
    is_met c.args.size c.args.under.now s.0.items s.1
