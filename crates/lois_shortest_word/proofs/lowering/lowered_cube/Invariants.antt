use Rattle.std.proofs.Common.{◌≡◌, take}
use Rattle.lois_base.specs.Rename.{rename_cube}
use Rattle.lois_shortest_word.specs.Shortened.{lowered}
use Rattle.lois_shortest_word.proofs.lowering.lowered_cube.Given as goal

abbrev pub invariant-loop-lit : goal.invariant-loop-lit
invariant-loop-lit l = l.low ≡ rename_cube (lowered l.gone) (take l.lit-index l.lit-items)
