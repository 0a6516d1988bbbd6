use Rattle.std.proofs.Common.{true}
use Rattle.lois_rounds.proofs.Measures.{sample_count}
use Rattle.lois_rounds.proofs.Runs.{IsUnderWay}
use Rattle.lois_rounds.proofs.fixpoint.shrink.Given as goal

abbrev pub invariant-shrinking : goal.invariant-shrinking
invariant-shrinking g l =
    IsUnderWay (g.R.Round.leads l.fn.round) (g.R.Round.leads l.round) (g.R.Round.admits l.fn.round) (g.R.Round.admits l.round) l.fn.start l.family

abbrev pub decreases-shrinking : goal.decreases-shrinking
decreases-shrinking g l = sample_count true l.family
