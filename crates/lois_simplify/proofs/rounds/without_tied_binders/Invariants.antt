use Rattle.lois_simplify.proofs.OneRound.{ShorterSoFar}
use Rattle.lois_simplify.proofs.rounds.without_tied_binders.Given as goal

abbrev pub invariant-loop-tied : goal.invariant-loop-tied
invariant-loop-tied g l = ShorterSoFar l.size l.fn.comp l.current

abbrev pub decreases-loop-tied : goal.decreases-loop-tied
decreases-loop-tied g l = l.current.binders
