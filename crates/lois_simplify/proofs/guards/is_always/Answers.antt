use Rattle.std.proofs.Common.{◌∙◌}
use Rattle.lois_simplify.proofs.guards.is_always.Goals as goal

pub returns : goal.returns
returns c = λ t. c.is_equal.ensures.0 t ∙ c.in_ok-always.ensures
