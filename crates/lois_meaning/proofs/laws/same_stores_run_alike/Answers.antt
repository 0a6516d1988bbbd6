use Rattle.lois_meaning.proofs.TheLaws.{runs_alike}
use Rattle.lois_meaning.proofs.laws.same_stores_run_alike.Goals as goal

pub returns : goal.returns
returns c = record { alike = runs_alike }
