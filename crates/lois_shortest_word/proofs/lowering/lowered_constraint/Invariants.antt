use Rattle.std.proofs.Common.{◌≡◌, take}
use Rattle.lois_base.specs.Rename.{rename_constraint}
use Rattle.lois_shortest_word.specs.Shortened.{lowered}
use Rattle.lois_shortest_word.proofs.lowering.lowered_constraint.Given as goal

abbrev pub invariant-loop-cube : goal.invariant-loop-cube
invariant-loop-cube l =
    l.low ≡ rename_constraint (lowered l.gone) (take l.cube-index l.cube-items)
