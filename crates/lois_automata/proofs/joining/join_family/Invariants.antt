use Rattle.lois_automata.proofs.Families.{JoinedSoFar}
use Rattle.lois_automata.proofs.joining.join_family.Given as goal

abbrev pub invariant-loop-index : goal.invariant-loop-index
invariant-loop-index l = JoinedSoFar l.member-items l.others l.index l.joined
