use Rattle.lois_base.proofs.TheLaws as laws
use Rattle.lois_base.proofs.laws.atoms_are_ordered.Goals as goal

pub returns-clause-equality : goal.returns-clause-equality
returns-clause-equality c = laws.equality

pub returns-clause-order : goal.returns-clause-order
returns-clause-order c = laws.order
