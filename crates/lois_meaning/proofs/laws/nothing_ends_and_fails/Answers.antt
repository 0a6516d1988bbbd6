use Rattle.lois_meaning.proofs.TheLaws.{never_both}
use Rattle.lois_meaning.proofs.laws.nothing_ends_and_fails.Goals as goal

pub returns : goal.returns
returns c = record { never_both = never_both }
