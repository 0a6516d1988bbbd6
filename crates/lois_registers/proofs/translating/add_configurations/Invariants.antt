use Rattle.std.proofs.Common.{◌≡◌, ◌++◌, take, map}
use Rattle.lois_registers.specs.Placed.{configuration_comp}
use Rattle.lois_registers.proofs.translating.add_configurations.Given as goal

abbrev pub invariant-loop-place : goal.invariant-loop-place
invariant-loop-place l = l.comps ≡ l.initial.comps ++ map (configuration_comp l.name) (take l.place-index l.places)
