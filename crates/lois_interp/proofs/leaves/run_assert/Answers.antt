use Rattle.std.proofs.Common.{sym, subst}
use Rattle.lois_answers.specs.declared.faults.FaultKind.TheVariants.{Assertion}
use Rattle.lois_deciders.specs.Satisfiability.{IsCounterexample}
use Rattle.lois_deciders.proofs.Oracle.{some_is, none_is}
use Rattle.lois_script.specs.Tree.{assert}
use Rattle.lois_script.specs.View.{cond_tree}
use Rattle.lois_meaning.specs.Expressions.{HasTruth}
use Rattle.lois_meaning.specs.Faults.{CondFails}
use Rattle.lois_context.specs.Slots.{store_at}
use Rattle.lois_eval.specs.Throughout.{IsFaultOf}
use Rattle.lois_eval.proofs.FaultsAt.{if_fault}
use Rattle.lois_eval.proofs.LoopExit.{passed_on}
use Rattle.lois_eval.specs.Checks.{IsFaultWith}
use Rattle.lois_interp.specs.Failed.{FailsWithin}
use Rattle.lois_interp.specs.Reached.{RunsAs}
use Rattle.lois_interp.specs.Run.{stmt_run}
use Rattle.lois_interp.proofs.LeafContexts.{assert_cond, assert_fails, assertion_fails}
use Rattle.lois_interp.proofs.LeafRuns.{assert_runs}
use Rattle.lois_interp.proofs.leaves.run_assert.Goals as goal

pub decide-requires : goal.decide-requires
decide-requires g c = assert_cond c.args.pos.offset (cond_tree c.args.condition.now) g.T.Structure.ordered c.args.context c.requires

pub returns-in_err-decided-clause-fault : goal.returns-in_err-decided-clause-fault
returns-in_err-decided-clause-fault g c =
    let p = c.args.pos.offset in let q = cond_tree c.args.condition.now in let k = c.args.context in
    passed_on c.from_residual.result c.in_err-decided.field-0.0 (IsFaultOf g.T.Structure.ordered k (CondFails q)) (FailsWithin g.T.Structure.ordered (stmt_run (assert p q)) k) c.from_residual.ensures.1 (λ f h. assert_fails g.T.Structure.ordered p q k f h) c.in_err-decided.ensures.fault

pub returns-in-Some-clause-fault : goal.returns-in-Some-clause-fault
returns-in-Some-clause-fault g c =
    let q = cond_tree c.args.condition.now in let k = c.args.context in
    let decided = c.in_ok-decided.decided in
    let sample = c.in-Some.sample.items in
    let parts = some_is (λ s. IsCounterexample k.size k.«when» decided s.items) c.in_ok-sample.field-0 c.in-Some.sample c.in-Some.is c.in_ok-sample.ensures.sample in
    if_fault c.fault.result (IsFaultWith c.args.pos Assertion sample) (FailsWithin g.T.Structure.ordered (stmt_run (assert c.args.pos.offset q)) k) (λ f h. assertion_fails g.T.Structure.ordered c.args.pos q k decided sample f c.requires.operators (c.in_ok-decided.ensures.operators g.T.Structure.ordered (assert_cond c.args.pos.offset q g.T.Structure.ordered k c.requires)) c.in_ok-decided.ensures.truth c.in_ok-decided.ensures.levels parts h) c.fault.ensures

pub returns-in_ok-one-in-None-clause-runs : goal.returns-in_ok-one-in-None-clause-runs
returns-in_ok-one-in-None-clause-runs g c =
    let q = cond_tree c.args.condition.now in let k = c.args.context in
    let all = c.in_ok-sample.ensures.none.0 (none_is c.in_ok-sample.field-0 c.in-None.is) in
    subst (RunsAs (stmt_run (assert c.args.pos.offset q)) k) (sym c.in_ok-one-in-None.ensures)
    (assert_runs c.args.pos.offset q k (λ a adm. subst (HasTruth q (store_at a k.store)) (all a adm.0 adm.1) (c.in_ok-decided.ensures.truth a adm)))
