use Rattle.std.proofs.Common.{List, take}
use Rattle.std.specs.Bool.{IsTrue}
use Rattle.lois_base.specs.Atom.{Atom}
use Rattle.lois_base.specs.Truth.{holds}
use Rattle.lois_simplify.proofs.shortening.follows.Given as goal

abbrev pub invariant-loop-cube : goal.invariant-loop-cube
invariant-loop-cube l =
    (e : List Atom) → IsTrue (holds e (take l.cube-index l.cube-items)) → IsTrue (holds e l.guard)
