use Rattle.lois_simplify.proofs.OneRound.{ShorterSoFar}
use Rattle.lois_simplify.proofs.rounds.with_used_binders.Given as goal

abbrev pub invariant-loop-binder : goal.invariant-loop-binder
invariant-loop-binder g l = ShorterSoFar l.size l.fn.comp l.current

abbrev pub decreases-loop-binder : goal.decreases-loop-binder
decreases-loop-binder g l = l.current.binders
