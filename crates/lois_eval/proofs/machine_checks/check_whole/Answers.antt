use Rattle.std.proofs.Common.{inl, subst}
use Rattle.std.proofs.lemmas.Result.{IfErr-weaker}
use Rattle.lois_base.specs.Tree.{tree}
use Rattle.lois_deciders.proofs.Oracle.{on_ok}
use Rattle.lois_automata.specs.Machines.{IsCompleteAt, IsCompleteDeterministicAt}
use Rattle.lois_automata.specs.Deterministic.{IsDeterministicAt}
use Rattle.lois_automata.specs.Throughout.{HoldsThroughout}
use Rattle.lois_automata.specs.Verdicts.{IsVerdictOn}
use Rattle.lois_answers.specs.declared.faults.FaultKind.TheVariants.{NotDeterministic, NotComplete}
use Rattle.lois_meaning.specs.Faults.{IsNoAutomaton, IsInvalidOperand}
use Rattle.lois_script.specs.Tree.{pos}
use Rattle.lois_script.specs.View.{tree as expr_tree}
use Rattle.lois_script.specs.declared.syntax.Operation.TheVariants.{Minimise}
use Rattle.lois_eval.specs.Automata.{IsFailureOfVerdict, IsValueFault}
use Rattle.lois_eval.specs.Throughout.{IfFault}
use Rattle.lois_eval.proofs.Automata.{is_whole, not_deterministic, not_complete, value_fault_weaker, on_holds}
use Rattle.lois_eval.proofs.FaultsAt.{if_fault}
use Rattle.lois_eval.proofs.LoopExit.{passed_on}
use Rattle.lois_eval.proofs.machine_checks.check_whole.Goals as goal

pub returns-in_err-check_machine-clause-fault : goal.returns-in_err-check_machine-clause-fault
returns-in_err-check_machine-clause-fault g c =
    let k = c.args.context.now in
    let t = tree c.args.value.now in
    let at = pos (expr_tree c.args.operand.now) in
    passed_on c.from_residual.result c.in_err-check_machine.field-0.0 (IsValueFault g.T.Structure.ordered k IsNoAutomaton t at) (IsValueFault g.T.Structure.ordered k (IsInvalidOperand Minimise) t at) c.from_residual.ensures.1
    (λ f h. value_fault_weaker k t g.T.Structure.ordered IsNoAutomaton (IsInvalidOperand Minimise) at f (λ v kind no. inl no) h) c.in_err-check_machine.ensures.fault

pub returns-in_err-passed-clause-fault : goal.returns-in_err-passed-clause-fault
returns-in_err-passed-clause-fault g c =
    let k = c.args.context.now in
    let t = tree c.args.value.now in
    let v = c.in_ok-single.single in
    let at = c.pos.result in
    let Q = IsValueFault g.T.Structure.ordered k (IsInvalidOperand Minimise) t in
    passed_on c.from_residual-in_err-passed.result c.in_err-passed.field-0.0 (IsFailureOfVerdict v at NotDeterministic) (Q (pos (expr_tree c.args.operand.now))) c.from_residual-in_err-passed.ensures.1
    (λ f broken. subst (λ z. Q z f) c.pos.ensures.first_token (not_deterministic g.T.Structure.ordered k t c.requires.over.levels c.requires.over.operators c.requires.context_operators c.in_ok-check_machine.ensures.automaton at v c.in_ok-single.ensures.verdict f broken)) c.in_err-passed.ensures.fault

pub returns-clause-whole : goal.returns-clause-whole
returns-clause-whole g c =
    let k = c.args.context.now in
    let t = tree c.args.value.now in
    let single = subst (IsVerdictOn k.size k.«when» (IsDeterministicAt t)) c.in_ok-passed.ensures.holds c.in_ok-single.ensures.verdict in
    on_ok c.passed-2.result (HoldsThroughout k.size k.«when» (IsCompleteAt t)) (HoldsThroughout k.size k.«when» (IsCompleteDeterministicAt t)) (λ total. is_whole k.size k.«when» t single total)
    (on_holds c.passed-2.result c.in_ok-total.total (IsVerdictOn k.size k.«when» (IsCompleteAt t)) c.passed-2.ensures.holds c.in_ok-total.ensures.verdict)

pub returns-clause-fault : goal.returns-clause-fault
returns-clause-fault g c =
    let k = c.args.context.now in
    let t = tree c.args.value.now in
    let v = c.in_ok-total.total in
    let at = c.pos-2.result in
    let P = IsFailureOfVerdict v at NotComplete in
    let Q = IsValueFault g.T.Structure.ordered k (IsInvalidOperand Minimise) t in
    let single = subst (IsVerdictOn k.size k.«when» (IsDeterministicAt t)) c.in_ok-passed.ensures.holds c.in_ok-single.ensures.verdict in
    IfErr-weaker c.passed-2.result (λ s. IfFault s P) _
    (λ s h. if_fault s P (Q (pos (expr_tree c.args.operand.now))) (λ f broken. subst (λ z. Q z f) c.pos-2.ensures.first_token (not_complete g.T.Structure.ordered k t c.requires.over.levels c.requires.over.operators c.requires.context_operators single at v c.in_ok-total.ensures.verdict f broken)) h) c.passed-2.ensures.fault
