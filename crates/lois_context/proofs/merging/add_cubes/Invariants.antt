use Rattle.std.proofs.Common.{◌≡◌, ◌++◌, take}
use Rattle.lois_context.proofs.merging.add_cubes.Given as goal

abbrev pub invariant-loop-cube : goal.invariant-loop-cube
invariant-loop-cube l = l.when ≡ l.fn.when ++ take l.cube-index l.cube-items
