use Rattle.std.proofs.Common.{List, ◌||◌, take}
use Rattle.std.specs.Bool.{IsTrue}
use Rattle.std.specs.List.{list_any}
use Rattle.lois_base.specs.Atom.{Atom}
use Rattle.lois_base.specs.Truth.{lit_holds, cube_holds, holds}
use Rattle.lois_simplify.proofs.parting.halves.Given as goal

abbrev pub invariant-loop-other : goal.invariant-loop-other
invariant-loop-other l =
    (e : List Atom) → IsTrue (cube_holds e l.part) → IsTrue (lit_holds e l.fn.lit || list_any (lit_holds e) (take l.other-index l.other-items)) → IsTrue (holds e l.halves)
