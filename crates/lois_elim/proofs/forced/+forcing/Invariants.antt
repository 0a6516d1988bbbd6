use Rattle.std.proofs.Common.{◌+◌, ◌*◌}
use Rattle.lois_base.specs.FormulaData.{formulas_of, depth_of_formula, depth_of_formulas}
use Rattle.lois_base.specs.FormulaView.{view, views}
use Rattle.lois_elim.proofs.forced.+forcing.Given as goal

abbrev pub decreases-forced : goal.decreases-forced
decreases-forced l = 2 * depth_of_formula (view l.f.now) + 1

abbrev pub decreases-forced_by_one : goal.decreases-forced_by_one
decreases-forced_by_one l = 2 * depth_of_formulas (formulas_of (views l.parts.now)) + 2
