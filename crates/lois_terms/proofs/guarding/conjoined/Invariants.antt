use Rattle.std.proofs.Common.{◌≡◌, take}
use Rattle.lois_base.specs.Normal.{both}
use Rattle.lois_terms.proofs.guarding.conjoined.Given as goal

abbrev pub invariant-loop-cube : goal.invariant-loop-cube
invariant-loop-cube l = l.product ≡ both (take l.cube-index l.cube-items) l.b
