use Rattle.lois_automata.proofs.Families.{CopiedSoFar}
use Rattle.lois_automata.proofs.joining.copy_family.Given as goal

abbrev pub invariant-loop-member : goal.invariant-loop-member
invariant-loop-member l = CopiedSoFar l.member-items l.member-index l.copied
