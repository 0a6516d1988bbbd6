use Rattle.lois_meaning.proofs.NamesKept.{keeps_names}
use Rattle.lois_meaning.proofs.laws.runs_keep_names.Goals as goal

pub returns : goal.returns
returns c = record { names = keeps_names }
