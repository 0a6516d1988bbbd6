use Rattle.std.proofs.Common.{◌≡◌, ◌++◌, take}
use Rattle.lois_terms.proofs.guarding.joined_cube.Given as goal

abbrev pub invariant-loop-lit : goal.invariant-loop-lit
invariant-loop-lit l = l.joined ≡ l.a ++ take l.lit-index l.lit-items
