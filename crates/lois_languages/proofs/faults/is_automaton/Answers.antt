use Rattle.std.proofs.Common.{sym, subst}
use Rattle.std.specs.Prelude.{IfOk}
use Rattle.lois_base.specs.Tree.{tree}
use Rattle.lois_automata.specs.Machines.{IsAutomatonAt}
use Rattle.lois_automata.specs.Verdicts.{IsVerdictOn}
use Rattle.lois_languages.specs.Faults.{DecidesAutomaton}
use Rattle.lois_languages.proofs.LineFaults.{broken_automaton}
use Rattle.lois_languages.proofs.faults.is_automaton.Goals as goal
use Rattle.lois_languages.proofs.faults.is_automaton.Goals.{in-Fails, in-Holds}

pub returns-clause-answer : goal.returns-clause-answer
returns-clause-answer g c =
    let n = c.args.size in
    let u = c.args.under.now in
    let t = tree c.args.t.now in
    let verdict = c.in_ok-check_automaton.ensures.verdict in
    elim c.match-branch-2.branch [
      | in-Fails w ↦ subst (λ z. IfOk z (DecidesAutomaton n u t)) (sym w.result-is) (broken_automaton n u t w.in-Fails.field-0.items (subst (λ z. IsVerdictOn n u (IsAutomatonAt t) z) w.in-Fails.is verdict))
      | in-Holds w ↦ subst (λ z. IfOk z (DecidesAutomaton n u t)) (sym w.result-is) (subst (λ z. IsVerdictOn n u (IsAutomatonAt t) z) w.in-Holds.is verdict)
    ]
