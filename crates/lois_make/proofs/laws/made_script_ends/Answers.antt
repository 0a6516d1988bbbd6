use Rattle.lois_make.proofs.MadeEnds.{made_ends, made_never_fails}
use Rattle.lois_make.proofs.laws.made_script_ends.Goals as goal

pub returns-clause-ends : goal.returns-clause-ends
returns-clause-ends c = made_ends

pub returns-clause-never_fails : goal.returns-clause-never_fails
returns-clause-never_fails c = made_never_fails
