use Rattle.std.proofs.Common.{take}
use Rattle.std.specs.List.{All}
use Rattle.lois_simplify.specs.Shortened.{SpeaksOfBoth}
use Rattle.lois_simplify.proofs.shortening.cube_uses_only.Given as goal

abbrev pub invariant-loop-lit : goal.invariant-loop-lit
invariant-loop-lit l = All (SpeaksOfBoth l.guard) (take l.lit-index l.lit-items)
