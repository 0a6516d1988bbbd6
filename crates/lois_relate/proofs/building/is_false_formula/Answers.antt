use Rattle.std.proofs.Common.{ap, ◌∙◌}
use Rattle.lois_base.specs.FormulaView.{view, views}
use Rattle.lois_base.proofs.FormulaViews.{view_Any}
use Rattle.lois_relate.proofs.Forms.{is_any_nothing}
use Rattle.lois_relate.proofs.building.is_false_formula.Goals as goal

pub returns-in-Any : goal.returns-in-Any
returns-in-Any c =
    is_any_nothing (view c.args.f.now) (views c.in-Any.parts) c.len.result (ap view c.in-Any.is ∙ view_Any c.in-Any.parts) c.len.ensures
