use Rattle.lois_laws.proofs.Languages.{no_word_is_of_the_run, word_is_of_the_run}
use Rattle.lois_laws.proofs.laws.words_are_of_the_run.Goals as goal

pub returns-clause-none : goal.returns-clause-none
returns-clause-none c = no_word_is_of_the_run

pub returns-clause-word : goal.returns-clause-word
returns-clause-word c = word_is_of_the_run
