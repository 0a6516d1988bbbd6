use Rattle.lois_same.proofs.Distinct.{contrasts_are_differences}
use Rattle.lois_same.proofs.laws.contrasts_are_differences.Goals as goal

pub returns : goal.returns
returns c = record { differ = contrasts_are_differences }
