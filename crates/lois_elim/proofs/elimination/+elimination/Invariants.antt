use Rattle.std.proofs.Common.{◌+◌, ◌*◌, length}
use Rattle.lois_base.specs.FormulaData.{formulas_of, depth_of_formula, depth_of_formulas}
use Rattle.lois_base.specs.FormulaView.{view, views}
use Rattle.lois_elim.proofs.Steps.{PartsSoFar, AnySoFar, parts_from}
use Rattle.lois_elim.proofs.Turning.{MetSoFar}
use Rattle.lois_elim.specs.Turns.{in_turn}
use Rattle.lois_elim.proofs.elimination.+elimination.Given as goal

abbrev pub decreases-under_names : goal.decreases-under_names
decreases-under_names g l = 4 * depth_of_formula (view l.f.now) + 1

abbrev pub decreases-some_of : goal.decreases-some_of
decreases-some_of g l = 4 * depth_of_formula (view l.body.now) + 2

abbrev pub decreases-each_of : goal.decreases-each_of
decreases-each_of g l = 4 * depth_of_formula (view l.body.now) + 2

abbrev pub decreases-meet_part : goal.decreases-meet_part
decreases-meet_part g l = 4 * depth_of_formula (view l.part.now) + 2

abbrev pub decreases-all_of : goal.decreases-all_of
decreases-all_of g l = 4 * depth_of_formulas (formulas_of (views l.parts.now)) + 4

abbrev pub decreases-meet_parts : goal.decreases-meet_parts
decreases-meet_parts g l = 4 * depth_of_formulas (formulas_of (views l.parts.now)) + 3

abbrev pub decreases-any_of : goal.decreases-any_of
decreases-any_of g l = 4 * depth_of_formulas (formulas_of (views l.parts.now)) + 3

abbrev pub invariant-meet_parts-loop-part : goal.invariant-meet_parts-loop-part
invariant-meet_parts-loop-part g l = MetSoFar (in_turn l.negations) l.size l.free l.bound (formulas_of (views l.parts)) (parts_from l.part-items l.part-index) l.fn.start l.met

abbrev pub invariant-any_of-loop-part : goal.invariant-any_of-loop-part
invariant-any_of-loop-part g l = record {
  truth : AnySoFar l.size l.free l.bound (formulas_of (views l.parts)) (parts_from l.part-items l.part-index) l.found;
  parts : PartsSoFar l.size (l.free + length l.bound) (formulas_of (views l.parts)) (parts_from l.part-items l.part-index) l.found;
}
