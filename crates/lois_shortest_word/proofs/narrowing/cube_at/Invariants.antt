use Rattle.std.proofs.Common.{◌≡◌, drop}
use Rattle.lois_base.specs.Truth.{holds, sampled}
use Rattle.lois_shortest_word.proofs.narrowing.cube_at.Given as goal

abbrev pub invariant-loop-cube : goal.invariant-loop-cube
invariant-loop-cube l = holds (sampled l.sample) l.wanted ≡ holds (sampled l.sample) (drop l.cube-index l.cube-items)
