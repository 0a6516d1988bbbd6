use Rattle.std.proofs.Common.{sym, subst}
use Rattle.lois_eval.specs.Automata.{IsFailureOfVerdict}
use Rattle.lois_eval.specs.Throughout.{IfFault}
use Rattle.lois_eval.proofs.machine_checks.passed.Goals as goal

pub returns-in-Fails-clause-fault : goal.returns-in-Fails-clause-fault
returns-in-Fails-clause-fault c =
    subst (λ v. IfFault c.fault.result (IsFailureOfVerdict v c.args.pos c.args.kind)) (sym c.in-Fails.is) c.fault.ensures
