use Rattle.std.proofs.Common.{◌≡◌, take}
use Rattle.lois_minimise.specs.Ties.{named_constraint}
use Rattle.lois_minimise.proofs.naming.under_names.Given as goal

abbrev pub invariant-loop-cube : goal.invariant-loop-cube
invariant-loop-cube l = l.named ≡ named_constraint l.names (take l.cube-index l.cube-items)
