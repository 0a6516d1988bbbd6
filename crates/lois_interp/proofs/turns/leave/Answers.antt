use Rattle.std.proofs.Common.{◌++◌, IfSome, true, sym, ap, ◌∙◌, subst}
use Rattle.lois_answers.specs.declared.faults.FaultKind.TheVariants.{TurnLimit}
use Rattle.lois_script.specs.Tree.{no_stmts}
use Rattle.lois_script.specs.View.{cond_tree}
use Rattle.lois_meaning.specs.Faults.{CondFails}
use Rattle.lois_eval.specs.Throughout.{IsFaultOf}
use Rattle.lois_eval.specs.Checks.{IsFaultWith}
use Rattle.lois_eval.proofs.FaultsAt.{if_fault}
use Rattle.lois_eval.proofs.LoopExit.{passed_on}
use Rattle.lois_eval.specs.Checks.{IsFaultWith}
use Rattle.lois_interp.specs.Decided.{listed_context, IsTrueSide}
use Rattle.lois_interp.specs.Failed.{FailsWithin}
use Rattle.lois_interp.specs.Reached.{RunsAs}
use Rattle.lois_interp.specs.Run.{leave_run}
use Rattle.lois_interp.proofs.WhileRuns.{leave_placed, leave_runs, leave_cond_fails, limit_fails}
use Rattle.lois_interp.proofs.turns.leave.Goals as goal

pub sides-requires-clause-placed : goal.sides-requires-clause-placed
sides-requires-clause-placed g c = leave_placed (cond_tree c.args.condition.now) no_stmts c.args.context g.T.Structure.ordered c.requires.placed

pub returns-in_err-sides-clause-fault : goal.returns-in_err-sides-clause-fault
returns-in_err-sides-clause-fault g c =
    let k = c.args.context in let q = cond_tree c.args.condition.now in let p = c.args.pos.offset in
    passed_on c.from_residual.result c.in_err-sides.field-0.0 (IsFaultOf g.T.Structure.ordered k (CondFails q)) (FailsWithin g.T.Structure.ordered (leave_run p q) k) c.from_residual.ensures.1 (λ f h. leave_cond_fails q no_stmts k g.T.Structure.ordered p f h) c.in_err-sides.ensures.fault

pub returns-in-Some-clause-fault : goal.returns-in-Some-clause-fault
returns-in-Some-clause-fault g c =
    let k = c.args.context in let q = cond_tree c.args.condition.now in
    let still = c.in-Some.still in
    let side = subst (λ z. IfSome z (IsTrueSide q true k)) c.in-Some.is c.in_ok-sides.ensures.decided.yes in
    if_fault c.fault_under.result (IsFaultWith c.args.pos TurnLimit still.sample) (FailsWithin g.T.Structure.ordered (leave_run c.args.pos.offset q) k) (λ f h. limit_fails q no_stmts k g.T.Structure.ordered c.args.pos still f (side.operators g.T.Structure.ordered (leave_placed q no_stmts k g.T.Structure.ordered c.requires.placed)) side h) c.fault_under.ensures

pub returns-in_ok-put-in-None-clause-runs : goal.returns-in_ok-put-in-None-clause-runs
returns-in_ok-put-in-None-clause-runs g c =
    let k = c.args.context in let q = cond_tree c.args.condition.now in let p = c.args.pos.offset in
    let sides = c.in_ok-sides.sides in
    subst (RunsAs (leave_run p q) k) (sym (c.in_ok-put-in-None.ensures ∙ ap (λ z. z ++ listed_context sides.no) c.new-left.ensures.items)) (leave_runs q no_stmts k p sides c.in_ok-sides.ensures.decided c.in-None.is)
