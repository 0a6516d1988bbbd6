use Rattle.lois_descent.proofs.OneStatement.{one_script, one_script_of_text}
use Rattle.lois_descent.proofs.laws.one_script.Goals as goal

pub returns-clause-tokens : goal.returns-clause-tokens
returns-clause-tokens c = one_script

pub returns-clause-text : goal.returns-clause-text
returns-clause-text c = one_script_of_text
