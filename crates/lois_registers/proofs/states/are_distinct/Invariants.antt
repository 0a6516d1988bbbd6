use Rattle.std.proofs.Common.{drop, ◌↔◌}
use Rattle.lois_answers.specs.Sound.{AreDistinct}
use Rattle.lois_registers.proofs.states.are_distinct.Given as goal

abbrev pub invariant-loop-index : goal.invariant-loop-index
invariant-loop-index l = AreDistinct l.names ↔ AreDistinct (drop l.index l.names)
