use Rattle.std.proofs.Common.{◌≡◌, take}
use Rattle.lois_registers.specs.Placed.{configurations}
use Rattle.lois_registers.proofs.translating.configurations_of.Given as goal

abbrev pub invariant-loop-name : goal.invariant-loop-name
invariant-loop-name l = l.comps ≡ configurations l.places (take l.name-index l.names)
