use Rattle.std.proofs.Common.{drop}
use Rattle.lois_automata.specs.Built.{IsEmptyFamily}
use Rattle.lois_automata.proofs.joining.is_empty_family.Given as goal

abbrev pub invariant-loop-member : goal.invariant-loop-member
invariant-loop-member l = IsEmptyFamily (drop l.member-index l.member-items) → IsEmptyFamily l.member-items
