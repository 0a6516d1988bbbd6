use Rattle.lois_base.specs.FormulaView.{view}
use Rattle.lois_relate.proofs.Forms.{negation_of_never, negation_of_always}
use Rattle.lois_relate.proofs.building.negation.Goals as goal

pub returns-then-is_false_formula : goal.returns-then-is_false_formula
returns-then-is_false_formula c = negation_of_never (view c.args.f) _ (c.is_false_formula.ensures.0 c.if-is_false_formula.true) c.true_formula.ensures

pub returns-then-is_true_formula : goal.returns-then-is_true_formula
returns-then-is_true_formula c = negation_of_always (view c.args.f) _ (c.is_true_formula.ensures.0 c.if-is_true_formula.true) c.false_formula.ensures
