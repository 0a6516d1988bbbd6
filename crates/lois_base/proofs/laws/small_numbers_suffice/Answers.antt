use Rattle.lois_base.proofs.TheLaws as laws
use Rattle.lois_base.proofs.laws.small_numbers_suffice.Goals as goal

pub returns : goal.returns
returns c = laws.numbers
