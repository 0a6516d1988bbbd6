use Rattle.lois_laws.proofs.TwoRuns.{runs_are_partitioned, same_is_of_the_runs}
use Rattle.lois_laws.proofs.laws.likenesses_are_of_the_runs.Goals as goal

pub returns-clause-partitioned : goal.returns-clause-partitioned
returns-clause-partitioned c = runs_are_partitioned

pub returns-clause-same : goal.returns-clause-same
returns-clause-same c = same_is_of_the_runs
