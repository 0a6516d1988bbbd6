use Rattle.std.proofs.Common.{List, take}
use Rattle.std.specs.Bool.{IsTrue}
use Rattle.lois_base.specs.Atom.{Atom}
use Rattle.lois_base.specs.Truth.{cube_holds}
use Rattle.lois_constraint.proofs.closed_cube.ClosedCube.implies_all.Given as goal

abbrev pub invariant-loop-lit : goal.invariant-loop-lit
invariant-loop-lit l =
    (c : List Atom) → IsTrue (cube_holds c l.self) → IsTrue (cube_holds c (take l.lit-index l.lit-items))
