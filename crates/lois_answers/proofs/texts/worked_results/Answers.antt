use Rattle.std.proofs.Common.{refl}
use Rattle.std.specs.Fmt.{digits}
use Rattle.lois_answers.proofs.texts.worked_results.Goals as goal

pub returns-clause-all_atoms : goal.returns-clause-all_atoms
unfolding digits
returns-clause-all_atoms c = refl

pub returns-clause-interval : goal.returns-clause-interval
unfolding digits
returns-clause-interval c = refl

pub returns-clause-classes : goal.returns-clause-classes
unfolding digits
returns-clause-classes c = refl
