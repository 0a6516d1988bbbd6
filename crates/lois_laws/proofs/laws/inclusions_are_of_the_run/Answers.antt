use Rattle.lois_laws.proofs.Languages.{within_is_of_the_run, beyond_is_of_the_run}
use Rattle.lois_laws.proofs.laws.inclusions_are_of_the_run.Goals as goal

pub returns-clause-within : goal.returns-clause-within
returns-clause-within c = within_is_of_the_run

pub returns-clause-beyond : goal.returns-clause-beyond
returns-clause-beyond c = beyond_is_of_the_run
