use Rattle.lois_automata.proofs.Families.{HeldSoFar}
use Rattle.lois_automata.proofs.joining.set_of_family.Given as goal

abbrev pub invariant-loop-index : goal.invariant-loop-index
invariant-loop-index l = HeldSoFar l.comp-items l.members l.index l.kept
