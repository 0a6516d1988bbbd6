use Rattle.std.proofs.Common.{◌≡◌, drop}
use Rattle.lois_registers.specs.Placed.{placed}
use Rattle.lois_registers.specs.MadeSteps.{joined_literals}
use Rattle.lois_registers.proofs.placements.placed_cube.Given as goal

abbrev pub invariant-loop-lit : goal.invariant-loop-lit
invariant-loop-lit l = joined_literals l.cube (placed l.operands (drop l.lit-index l.lit-items)) ≡ placed l.operands l.guard
