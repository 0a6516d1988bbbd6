use Rattle.std.specs.List.{AllZip}
use Rattle.lois_interp.specs.Printed.{IsCaseOf}
use Rattle.lois_interp.proofs.cases.cases.Given as goal

abbrev pub invariant-loop-context : goal.invariant-loop-context
invariant-loop-context l = AllZip IsCaseOf l.yielded l.cases
