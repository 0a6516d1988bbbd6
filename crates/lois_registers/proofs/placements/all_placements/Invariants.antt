use Rattle.std.proofs.Common.{◌≡◌, map}
use Rattle.lois_registers.specs.Placed.{contents_from, numbers}
use Rattle.lois_registers.proofs.placements.all_placements.Given as goal

abbrev pub invariant-loop-pattern : goal.invariant-loop-pattern
invariant-loop-pattern l = l.all.items ≡ map (contents_from 0 l.registers) (numbers l.pattern)
