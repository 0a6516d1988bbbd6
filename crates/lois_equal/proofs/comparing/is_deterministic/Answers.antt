use Rattle.std.proofs.Common.{sym, subst}
use Rattle.std.specs.Prelude.{IfOk}
use Rattle.lois_base.specs.Tree.{tree}
use Rattle.lois_automata.specs.Machines.{IsAutomatonAt}
use Rattle.lois_automata.specs.Deterministic.{IsDeterministicAt}
use Rattle.lois_automata.specs.Verdicts.{IsVerdictOn}
use Rattle.lois_equal.specs.ComparedCases.{DecidesDeterminism}
use Rattle.lois_equal.proofs.CaseLines.{unfit_automaton, unfit_deterministic}
use Rattle.lois_equal.proofs.comparing.is_deterministic.Goals as goal
use Rattle.lois_equal.proofs.comparing.is_deterministic.Goals.{in-Fails-2, in-Holds-2}

pub returns-in-Fails-clause-answer : goal.returns-in-Fails-clause-answer
returns-in-Fails-clause-answer g c =
    let n = c.args.size in
    let u = c.args.under.now in
    let t = tree c.args.t.now in
    unfit_automaton n u t c.in-Fails.field-0.items (subst (λ z. IsVerdictOn n u (IsAutomatonAt t) z) c.in-Fails.is c.in_ok-check_automaton.ensures.verdict)

pub returns-clause-answer : goal.returns-clause-answer
returns-clause-answer g c =
    let n = c.args.size in
    let u = c.args.under.now in
    let t = tree c.args.t.now in
    let verdict = c.in_ok-check_deterministic.ensures.verdict in
    elim c.match-branch-5.branch [
      | in-Fails-2 w ↦ subst (λ z. IfOk z (DecidesDeterminism n u t)) (sym w.result-is) (unfit_deterministic n u t w.in-Fails-2.field-0.items (subst (λ z. IsVerdictOn n u (IsDeterministicAt t) z) w.in-Fails-2.is verdict))
      | in-Holds-2 w ↦ subst (λ z. IfOk z (DecidesDeterminism n u t)) (sym w.result-is) (subst (λ z. IsVerdictOn n u (IsDeterministicAt t) z) w.in-Holds-2.is verdict)
    ]
