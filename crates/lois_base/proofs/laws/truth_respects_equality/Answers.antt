use Rattle.lois_base.proofs.TheLaws as laws
use Rattle.lois_base.proofs.laws.truth_respects_equality.Goals as goal

pub returns : goal.returns
returns c = laws.truth
