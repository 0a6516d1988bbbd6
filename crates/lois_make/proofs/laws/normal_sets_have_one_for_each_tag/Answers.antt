use Rattle.lois_make.proofs.MadeCounts.{normal_has_one_for_each}
use Rattle.lois_make.proofs.laws.normal_sets_have_one_for_each_tag.Goals as goal

pub returns : goal.returns
returns c = record { counted = normal_has_one_for_each }
