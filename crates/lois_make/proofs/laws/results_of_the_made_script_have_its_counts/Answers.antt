use Rattle.lois_make.proofs.MadeResults.{results_have_made_counts}
use Rattle.lois_make.proofs.laws.results_of_the_made_script_have_its_counts.Goals as goal

pub returns : goal.returns
returns c = record { counts = results_have_made_counts }
