use Rattle.std.proofs.Common.{◌∙◌, ap, refl}
use Rattle.std.proofs.lemmas.Result.{on_ok_weaker}
use Rattle.lois_base.specs.FormulaView.{view, views}
use Rattle.lois_base.proofs.FormulaViews.{view_All}
use Rattle.lois_relate.proofs.Forms.{both_appended, both_pushed}
use Rattle.lois_relate.proofs.building.add_parts.Goals as goal

pub returns-in-All : goal.returns-in-All
returns-in-All c =
    on_ok_weaker c.append.result (λ e. both_appended (view c.args.g) (views c.args.parts.now) (views c.in-All.more) (views c.append.new.parts) (ap view c.in-All.is ∙ view_All c.in-All.more) e) c.append.ensures

pub returns-in_default : goal.returns-in_default
returns-in_default c =
    on_ok_weaker c.push.result (λ e. both_pushed _ (view c.args.g) _ (views c.args.parts.now) (views c.push.new.self) refl e refl) c.push.ensures.ok
