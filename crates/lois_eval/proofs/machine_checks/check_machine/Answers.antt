use Rattle.std.proofs.Common.{subst}
use Rattle.std.proofs.lemmas.Result.{IfErr-weaker}
use Rattle.lois_base.specs.Tree.{tree}
use Rattle.lois_automata.specs.Machines.{IsAutomatonAt}
use Rattle.lois_automata.specs.Verdicts.{IsVerdictOn}
use Rattle.lois_answers.specs.declared.faults.FaultKind.TheVariants.{NotAutomaton}
use Rattle.lois_meaning.specs.Faults.{IsNoAutomaton}
use Rattle.lois_eval.specs.Automata.{IsFailureOfVerdict, IsValueFault}
use Rattle.lois_eval.specs.Throughout.{IfFault}
use Rattle.lois_script.specs.Tree.{pos}
use Rattle.lois_script.specs.View.{tree as expr_tree}
use Rattle.lois_eval.proofs.Automata.{given_throughout, no_automaton, on_holds}
use Rattle.lois_eval.proofs.FaultsAt.{if_fault}
use Rattle.lois_eval.proofs.machine_checks.check_machine.Goals as goal

pub returns-then-gives_automata-clause-automaton : goal.returns-then-gives_automata-clause-automaton
returns-then-gives_automata-clause-automaton g c =
    given_throughout c.args.context.now (expr_tree c.args.operand.now) (tree c.args.value.now) (c.gives_automata.ensures c.if-gives_automata.true) c.requires.given

pub returns-clause-automaton : goal.returns-clause-automaton
returns-clause-automaton g c =
    let k = c.args.context.now in
    on_holds c.passed.result c.in_ok-verdict.verdict (IsVerdictOn k.size k.«when» (IsAutomatonAt (tree c.args.value.now))) c.passed.ensures.holds c.in_ok-verdict.ensures.verdict

pub returns-clause-fault : goal.returns-clause-fault
returns-clause-fault g c =
    let k = c.args.context.now in
    let t = tree c.args.value.now in
    let v = c.in_ok-verdict.verdict in
    let e = expr_tree c.args.operand.now in
    let at = c.pos.result in
    let P = IsFailureOfVerdict v at NotAutomaton in
    let Q = IsValueFault g.T.Structure.ordered k IsNoAutomaton t in
    IfErr-weaker c.passed.result (λ s. IfFault s P) _
    (λ s h. if_fault s P (Q (pos e)) (λ f broken. subst (λ z. Q z f) c.pos.ensures.first_token (no_automaton g.T.Structure.ordered k t c.requires.over.levels c.requires.over.operators c.requires.context_operators at v c.in_ok-verdict.ensures.verdict f broken)) h) c.passed.ensures.fault
