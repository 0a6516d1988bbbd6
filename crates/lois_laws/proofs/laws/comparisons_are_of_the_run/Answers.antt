use Rattle.lois_laws.proofs.Comparisons.{equal_is_of_the_run, difference_is_of_the_run}
use Rattle.lois_laws.proofs.laws.comparisons_are_of_the_run.Goals as goal

pub returns-clause-equal : goal.returns-clause-equal
returns-clause-equal c = equal_is_of_the_run

pub returns-clause-difference : goal.returns-clause-difference
returns-clause-difference c = difference_is_of_the_run
