use Rattle.std.proofs.Common.{◌∷◌, ◌++◌, drop}
use Rattle.lois_simplify.specs.Shortened.{IsWeakenedCube}
use Rattle.lois_simplify.proofs.shortening.weakened.Given as goal

abbrev pub invariant-loop-index : goal.invariant-loop-index
invariant-loop-index l = IsWeakenedCube l.under (l.cube ∷ l.others) l.cube (l.kept ++ drop l.index l.literals)
