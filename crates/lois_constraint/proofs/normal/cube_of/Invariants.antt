use Rattle.std.proofs.Common.{◌≡◌, take}
use Rattle.lois_constraint.proofs.normal.cube_of.Given as goal

abbrev pub invariant-loop-lit : goal.invariant-loop-lit
invariant-loop-lit l = l.cube ≡ take l.lit-index l.literals
