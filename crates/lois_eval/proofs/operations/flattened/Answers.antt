use Rattle.std.proofs.Common.{◌⊎◌, inl, inr}
use Rattle.lois_base.specs.Tree.{tree}
use Rattle.lois_eval.specs.Checks.{IsSetFault}
use Rattle.lois_eval.specs.Operands.{IsMemberFault}
use Rattle.lois_eval.proofs.Applied.{flatten_applied}
use Rattle.lois_eval.proofs.LoopExit.{passed_on}
use Rattle.lois_eval.proofs.operations.flattened.Goals as goal

pub returns-in_err-check_set-clause-fault : goal.returns-in_err-check_set-clause-fault
returns-in_err-check_set-clause-fault g c =
    let P = IsSetFault c.args.context.now (tree c.args.set.now) c.args.pos.offset in
    let Q = IsMemberFault g.T.Structure.ordered c.args.context.now (tree c.args.set.now) c.args.pos.offset in
    passed_on c.from_residual.result c.in_err-check_set.field-0.0 P (λ f. P f ⊎ Q f) c.from_residual.ensures.1 (λ f h. inl h) c.in_err-check_set.ensures.fault

pub returns-in_err-sets-clause-fault : goal.returns-in_err-sets-clause-fault
returns-in_err-sets-clause-fault g c =
    let P = IsSetFault c.args.context.now (tree c.args.set.now) c.args.pos.offset in
    let Q = IsMemberFault g.T.Structure.ordered c.args.context.now (tree c.args.set.now) c.args.pos.offset in
    passed_on c.from_residual-in_err-sets.result c.in_err-sets.field-0.0 Q (λ f. P f ⊎ Q f) c.from_residual-in_err-sets.ensures.1 (λ f h. inr h) c.in_err-sets.ensures.fault

pub returns-clause-applied : goal.returns-clause-applied
returns-clause-applied g c =
    flatten_applied c.args.context.now (tree c.args.set.now) (tree c.in_ok-sets.sets) (tree c.in_ok-collect_over.field-0) c.in_ok-check_set.ensures.set c.in_ok-sets.ensures.sets c.in_ok-collect_over.ensures.set c.in_ok-collect_over.ensures.members

pub returns-clause-operators : goal.returns-clause-operators
returns-clause-operators g c = λ o h. c.in_ok-collect_over.ensures.operators o (c.in_ok-sets.ensures.sets.operators o h)

pub returns-clause-widths : goal.returns-clause-widths
returns-clause-widths g c = λ h. c.in_ok-collect_over.ensures.widths (c.in_ok-sets.ensures.sets.widths h)
