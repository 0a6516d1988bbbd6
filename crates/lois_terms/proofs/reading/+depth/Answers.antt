use Rattle.std.proofs.Common.{arith}
use Rattle.std.proofs.lemmas.Grind.{common_steps}
use Rattle.lois_base.specs.Tree.{tree}
use Rattle.lois_terms.proofs.Heights.{not_deeper}
use Rattle.lois_terms.proofs.reading.+depth.Goals as goal

pub is_within_depth-returns-then-limit-gt0-clause-values : goal.is_within_depth-returns-then-limit-gt0-clause-values
is_within_depth-returns-then-limit-gt0-clause-values t c =
    λ h. let within = c.are_parts_within_depth.ensures.0 h in not_deeper (tree c.args.t.now) c.args.limit (grind (arith, common_steps, within))

pub is_within_depth-returns-then-limit-gt0-2-clause-values : goal.is_within_depth-returns-then-limit-gt0-2-clause-values
is_within_depth-returns-then-limit-gt0-2-clause-values t c =
    λ h. let within = c.are_items_within_depth.ensures.0 h in not_deeper (tree c.args.t.now) c.args.limit (grind (arith, common_steps, within))
