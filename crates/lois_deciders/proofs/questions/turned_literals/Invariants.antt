use Rattle.std.proofs.Common.{◌≡◌, List, take}
use Rattle.lois_base.specs.Atom.{Atom}
use Rattle.lois_base.specs.Truth.{cube_holds}
use Rattle.lois_deciders.proofs.questions.turned_literals.Given as goal

abbrev pub invariant-loop-lit : goal.invariant-loop-lit
invariant-loop-lit l = (c : List Atom) → cube_holds c l.literals.items ≡ cube_holds c (take l.lit-index l.lit-items)
