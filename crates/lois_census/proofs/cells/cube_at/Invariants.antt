use Rattle.std.proofs.Common.{◌≡◌, drop}
use Rattle.lois_base.specs.Truth.{holds, sampled}
use Rattle.lois_census.proofs.cells.cube_at.Given as goal

abbrev pub invariant-loop-cube : goal.invariant-loop-cube
invariant-loop-cube l =
    holds (sampled l.sample) l.constraint ≡ holds (sampled l.sample) (drop l.cube-index l.cube-items)
