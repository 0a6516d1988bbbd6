use Rattle.std.proofs.Common.{take}
use Rattle.lois_registers.specs.Placed.{AreMade, step_comps}
use Rattle.lois_registers.proofs.translating.steps_of.Given as goal

abbrev pub invariant-loop-step : goal.invariant-loop-step
invariant-loop-step l = AreMade (step_comps l.places (take l.step-index l.step-items)) l.comps
