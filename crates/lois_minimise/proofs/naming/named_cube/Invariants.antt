use Rattle.std.proofs.Common.{◌≡◌, map, take}
use Rattle.lois_relate.specs.Named.{named_lit}
use Rattle.lois_minimise.proofs.naming.named_cube.Given as goal

abbrev pub invariant-loop-lit : goal.invariant-loop-lit
invariant-loop-lit l = l.named ≡ map (named_lit l.names) (take l.lit-index l.lit-items)
