use Rattle.std.proofs.Common.{take, map}
use Rattle.lois_registers.specs.Placed.{step_comp}
use Rattle.lois_registers.specs.MadeSteps.{AddsMade}
use Rattle.lois_registers.proofs.translating.add_steps.Given as goal

abbrev pub invariant-loop-place : goal.invariant-loop-place
invariant-loop-place l = AddsMade (map (step_comp l.step) (take l.place-index l.places)) l.initial.comps l.comps
