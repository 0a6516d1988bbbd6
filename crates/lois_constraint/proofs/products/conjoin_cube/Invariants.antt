use Rattle.std.proofs.Common.{◌≡◌, ◌++◌, take}
use Rattle.lois_constraint.proofs.products.conjoin_cube.Given as goal

abbrev pub invariant-loop-lit : goal.invariant-loop-lit
invariant-loop-lit l = l.conjoined ≡ l.a ++ take l.lit-index l.lit-items
