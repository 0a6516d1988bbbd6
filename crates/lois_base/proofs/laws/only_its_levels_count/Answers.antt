use Rattle.lois_base.proofs.TheLaws as laws
use Rattle.lois_base.proofs.laws.only_its_levels_count.Goals as goal

pub returns : goal.returns
returns c = laws.levels
