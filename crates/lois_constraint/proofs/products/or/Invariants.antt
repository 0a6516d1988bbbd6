use Rattle.std.proofs.Common.{◌≡◌, ◌++◌, take}
use Rattle.lois_constraint.proofs.products.or.Given as goal

abbrev pub invariant-loop-cube : goal.invariant-loop-cube
invariant-loop-cube l = l.joined ≡ l.a ++ take l.cube-index l.cube-items
