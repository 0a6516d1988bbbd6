use Rattle.std.proofs.Common.{◌≡◌, List, take}
use Rattle.lois_base.specs.Atom.{Atom}
use Rattle.lois_base.specs.Truth.{cube_holds}
use Rattle.lois_deciders.proofs.questions.distinct.Given as goal

abbrev pub invariant-loop-index : goal.invariant-loop-index
invariant-loop-index l = (c : List Atom) → cube_holds c l.distinct.items ≡ cube_holds c (take l.index l.literals)
