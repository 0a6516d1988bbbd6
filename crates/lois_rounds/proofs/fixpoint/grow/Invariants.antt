use Rattle.std.proofs.Common.{false}
use Rattle.lois_rounds.proofs.Measures.{sample_count}
use Rattle.lois_rounds.proofs.Runs.{IsUnderWay}
use Rattle.lois_rounds.proofs.fixpoint.grow.Given as goal

abbrev pub invariant-growing : goal.invariant-growing
invariant-growing g l =
    IsUnderWay (g.R.Round.leads l.fn.round) (g.R.Round.leads l.round) (g.R.Round.admits l.fn.round) (g.R.Round.admits l.round) l.fn.start l.family

abbrev pub decreases-growing : goal.decreases-growing
decreases-growing g l = sample_count false l.family
