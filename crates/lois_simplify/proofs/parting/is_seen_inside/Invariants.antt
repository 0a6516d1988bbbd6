use Rattle.std.proofs.Common.{List, ◌++◌}
use Rattle.std.specs.Bool.{IsTrue}
use Rattle.lois_base.specs.Atom.{Atom}
use Rattle.lois_base.specs.Truth.{holds}
use Rattle.lois_simplify.proofs.parting.is_seen_inside.Given as goal

abbrev pub invariant-loop-round : goal.invariant-loop-round
invariant-loop-round l =
    (e : List Atom) → IsTrue (holds e l.inner) → IsTrue (holds e (l.parts ++ l.outer))
