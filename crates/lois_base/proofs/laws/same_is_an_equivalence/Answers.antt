use Rattle.lois_base.proofs.TheLaws as laws
use Rattle.lois_base.proofs.laws.same_is_an_equivalence.Goals as goal

pub returns-clause-equivalence : goal.returns-clause-equivalence
returns-clause-equivalence c = laws.equivalence

pub returns-clause-respected : goal.returns-clause-respected
returns-clause-respected c = laws.respected

pub returns-clause-sets : goal.returns-clause-sets
returns-clause-sets c = laws.sets
