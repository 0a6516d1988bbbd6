use Rattle.std.proofs.Common.{List, take}
use Rattle.std.specs.Bool.{IsTrue}
use Rattle.lois_base.specs.Atom.{Atom}
use Rattle.lois_base.specs.Truth.{cube_holds, holds}
use Rattle.lois_constraint.proofs.covering.covers_cube.Given as goal

abbrev pub invariant-loop-part : goal.invariant-loop-part
invariant-loop-part l =
    (c : List Atom) → IsTrue (cube_holds c l.cube) → IsTrue (holds c (take l.part-index l.part-items)) → IsTrue (holds c l.others)
