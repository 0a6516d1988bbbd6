use Rattle.lois_reader.proofs.Determined.{results_are_told, answers_are_told}
use Rattle.lois_reader.proofs.laws.texts_tell_values_apart.Goals as goal

pub returns-clause-results : goal.returns-clause-results
returns-clause-results c = results_are_told

pub returns-clause-answers : goal.returns-clause-answers
returns-clause-answers c = answers_are_told
