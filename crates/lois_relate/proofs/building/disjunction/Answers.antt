use Rattle.lois_base.specs.FormulaView.{view}
use Rattle.lois_relate.proofs.Forms.{either_never_left, either_never_right, either_always_left, either_always_right}
use Rattle.lois_relate.proofs.building.disjunction.Goals as goal

pub returns-then-is_true_formula : goal.returns-then-is_true_formula
returns-then-is_true_formula c =
    either_always_left (view c.args.f) (view c.args.g) (c.is_true_formula.ensures.0 c.if-is_true_formula.true)

pub returns-then-is_true_formula-2 : goal.returns-then-is_true_formula-2
returns-then-is_true_formula-2 c =
    either_always_right (view c.args.f) (view c.args.g) (c.is_true_formula-2.ensures.0 c.if-is_true_formula-2.true)

pub returns-then-is_false_formula : goal.returns-then-is_false_formula
returns-then-is_false_formula c =
    either_never_left (view c.args.f) (view c.args.g) (c.is_false_formula.ensures.0 c.if-is_false_formula.true)

pub returns-then-is_false_formula-2 : goal.returns-then-is_false_formula-2
returns-then-is_false_formula-2 c =
    either_never_right (view c.args.f) (view c.args.g) (c.is_false_formula-2.ensures.0 c.if-is_false_formula-2.true)
