use Rattle.std.proofs.Common.{refl}
use Rattle.std.specs.Fmt.{digits}
use Rattle.lois_answers.proofs.texts.worked_traces.Goals as goal

pub returns-clause-loops : goal.returns-clause-loops
unfolding digits
returns-clause-loops c = refl

pub returns-clause-choice : goal.returns-clause-choice
unfolding digits
returns-clause-choice c = refl

pub returns-clause-no_set : goal.returns-clause-no_set
unfolding digits
returns-clause-no_set c = refl
