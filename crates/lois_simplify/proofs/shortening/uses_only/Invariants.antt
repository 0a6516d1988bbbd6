use Rattle.std.proofs.Common.{take}
use Rattle.lois_simplify.specs.Shortened.{SpeaksOfAll}
use Rattle.lois_simplify.proofs.shortening.uses_only.Given as goal

abbrev pub invariant-loop-cube : goal.invariant-loop-cube
invariant-loop-cube l = SpeaksOfAll l.guard (take l.cube-index l.cube-items)
