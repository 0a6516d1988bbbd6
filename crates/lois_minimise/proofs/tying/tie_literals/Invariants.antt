use Rattle.std.proofs.Common.{◌≡◌, map, take}
use Rattle.lois_minimise.specs.Ties.{tie_lit}
use Rattle.lois_minimise.proofs.tying.tie_literals.Given as goal

abbrev pub invariant-loop-tie : goal.invariant-loop-tie
invariant-loop-tie l = l.cube ≡ map (tie_lit l.names) (take l.tie-index l.ties)
