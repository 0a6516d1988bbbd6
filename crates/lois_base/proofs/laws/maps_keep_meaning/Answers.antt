use Rattle.lois_base.proofs.TheLaws as laws
use Rattle.lois_base.proofs.laws.maps_keep_meaning.Goals as goal

pub returns-clause-pattern : goal.returns-clause-pattern
returns-clause-pattern c = laws.pattern

pub returns-clause-maps : goal.returns-clause-maps
returns-clause-maps c = laws.maps
