use Rattle.std.proofs.Common.{rules}
use Rattle.lois_terms.specs.Hash.{mixed}
use Rattle.lois_context.proofs.hashing.mix.Goals as goal

pub returns : goal.returns
unfolding mixed
returns c = search rules
