use Rattle.lois_elim.proofs.BoundDown.{IsBoundDown}
use Rattle.lois_minimise.proofs.members.without_levels.Given as goal

abbrev pub invariant-levels : goal.invariant-levels
invariant-levels g l = IsBoundDown l.size l.by l.more l.fn.c l.left

abbrev pub decreases-levels : goal.decreases-levels
decreases-levels g l = l.more
