use Rattle.lois_base.specs.FormulaView.{view}
use Rattle.lois_relate.specs.Built.{IsForSome}
use Rattle.lois_relate.proofs.building.for_some.Given as goal

abbrev pub invariant-loop : goal.invariant-loop
invariant-loop l = IsForSome l.counter (view l.initial.bound) (view l.bound)
