use Rattle.lois_make.proofs.MadeScoped.{made_is_well_scoped}
use Rattle.lois_make.proofs.MadeSpelled.{made_is_spelled}
use Rattle.lois_make.proofs.laws.made_script_is_spelled.Goals as goal

pub returns-clause-spelled : goal.returns-clause-spelled
returns-clause-spelled c = made_is_spelled

pub returns-clause-scoped : goal.returns-clause-scoped
returns-clause-scoped c = made_is_well_scoped
