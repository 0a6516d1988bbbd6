use Rattle.lois_descent.proofs.DescendsScript.{script_reads}
use Rattle.lois_descent.proofs.laws.descent_is_correct.Goals as goal

pub returns : goal.returns
returns c = record { judged = script_reads }
