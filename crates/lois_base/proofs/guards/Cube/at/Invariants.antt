use Rattle.std.proofs.Common.{◌≡◌, drop}
use Rattle.lois_base.specs.Truth.{cube_holds, sampled}
use Rattle.lois_base.proofs.guards.Cube.at.Given as goal

abbrev pub invariant-loop-lit : goal.invariant-loop-lit
invariant-loop-lit l =
    cube_holds (sampled l.sample) l.self ≡ cube_holds (sampled l.sample) (drop l.lit-index l.lit-items)
