use Rattle.std.proofs.Common.{List, ◌++◌, take}
use Rattle.std.specs.Bool.{IsTrue}
use Rattle.lois_base.specs.Atom.{Atom}
use Rattle.lois_base.specs.Truth.{holds}
use Rattle.lois_simplify.proofs.parting.left_of_parts.Given as goal

abbrev pub invariant-loop-part : goal.invariant-loop-part
invariant-loop-part l =
    (e : List Atom) → IsTrue (holds e (take l.part-index l.part-items)) → IsTrue (holds e (l.left ++ l.outer))
