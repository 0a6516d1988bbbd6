use Rattle.lois_run.proofs.Sure.{refusals_are_sure, refused_spell_none}
use Rattle.lois_run.proofs.laws.refusals_are_sure.Goals as goal

pub returns-clause-sure : goal.returns-clause-sure
returns-clause-sure c = refusals_are_sure

pub returns-clause-no_script : goal.returns-clause-no_script
returns-clause-no_script c = refused_spell_none
