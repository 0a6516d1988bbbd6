use Rattle.lois_base.proofs.NormalDepths.{normal_depth}
use Rattle.lois_base.proofs.laws.normal_terms_are_as_deep_as_their_values.Goals as goal

pub returns : goal.returns
returns c = normal_depth
