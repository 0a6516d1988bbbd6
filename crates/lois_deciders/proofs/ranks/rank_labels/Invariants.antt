use Rattle.std.proofs.Common.{Bool, List}
use Rattle.lois_deciders.proofs.Queued.{IsQueue}
use Rattle.lois_deciders.proofs.ranks.rank_labels.Given as goal

abbrev pub invariant-loop-rank : goal.invariant-loop-rank
invariant-loop-rank l = (waiting : List Bool) × IsQueue l.cube l.labels l.steps.items l.unheld.items l.ranks.items l.rank waiting
