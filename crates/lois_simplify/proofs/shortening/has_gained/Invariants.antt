use Rattle.std.proofs.Common.{List, take}
use Rattle.std.specs.Bool.{IsTrue}
use Rattle.std.specs.List.{list_any}
use Rattle.lois_base.specs.Atom.{Atom}
use Rattle.lois_base.specs.Truth.{lit_holds, cube_holds, holds}
use Rattle.lois_simplify.proofs.shortening.has_gained.Given as goal

abbrev pub invariant-loop-other : goal.invariant-loop-other
invariant-loop-other l =
    (e : List Atom) → IsTrue (holds e l.under) → IsTrue (cube_holds e l.without) → IsTrue (list_any (lit_holds e) (take l.other-index l.other-items)) → IsTrue (holds e l.others)
