use Rattle.std.proofs.Common.{◌+◌, ◌*◌}
use Rattle.lois_base.specs.FormulaData.{FormulasFit, formulas_of, depth_of_formula, depth_of_formulas}
use Rattle.lois_base.specs.FormulaView.{view, views}
use Rattle.lois_base.specs.FormulaOperators.{AdmitsFormulas}
use Rattle.lois_elim.proofs.Steps.{parts_from}
use Rattle.lois_vectors_atoms.proofs.elim.+fitting.Given as goal

abbrev pub decreases-is_fit : goal.decreases-is_fit
decreases-is_fit g l = 2 * depth_of_formula (view l.f.now) + 1

abbrev pub decreases-are_fit : goal.decreases-are_fit
decreases-are_fit g l = 2 * depth_of_formulas (formulas_of (views l.parts.now)) + 2

abbrev pub invariant-are_fit-loop-part : goal.invariant-are_fit-loop-part
invariant-are_fit-loop-part g l = record {
  levels : FormulasFit l.size (parts_from l.part-items l.part-index) → FormulasFit l.size (formulas_of (views l.parts));
  operators : AdmitsFormulas g.T.Structure.ordered (parts_from l.part-items l.part-index) → AdmitsFormulas g.T.Structure.ordered (formulas_of (views l.parts));
}
