use Rattle.std.proofs.Common.{ap, ◌∙◌}
use Rattle.lois_base.specs.FormulaView.{view, views}
use Rattle.lois_base.proofs.FormulaViews.{view_All}
use Rattle.lois_relate.proofs.Forms.{is_all_nothing}
use Rattle.lois_relate.proofs.building.is_true_formula.Goals as goal

pub returns-in-All : goal.returns-in-All
returns-in-All c =
    is_all_nothing (view c.args.f.now) (views c.in-All.parts) c.len.result (ap view c.in-All.is ∙ view_All c.in-All.parts) c.len.ensures
