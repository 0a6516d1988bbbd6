use Rattle.std.proofs.Common.{◌+◌, ◌*◌}
use Rattle.lois_base.specs.FormulaData.{formulas_of, depth_of_formula, depth_of_formulas}
use Rattle.lois_base.specs.FormulaView.{view, views}
use Rattle.lois_vectors_sets.proofs.relate.+trying.Given as goal

abbrev pub decreases-holds : goal.decreases-holds
decreases-holds l = 3 * depth_of_formula (view l.f.now) + 1

abbrev pub decreases-some_is : goal.decreases-some_is
decreases-some_is l = 3 * depth_of_formulas (formulas_of (views l.parts.now)) + 2

abbrev pub decreases-is_for_some : goal.decreases-is_for_some
decreases-is_for_some l = 3 * depth_of_formula (view l.body.now) + 2
