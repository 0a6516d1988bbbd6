use Rattle.std.proofs.Common.{ap, ◌∙◌}
use Rattle.lois_base.specs.FormulaView.{view, views}
use Rattle.lois_base.proofs.FormulaViews.{view_Any}
use Rattle.lois_relate.proofs.Forms.{either_pushed}
use Rattle.lois_relate.proofs.building.joined_by_any.Goals as goal

pub returns-in_ok-push-in-Any : goal.returns-in_ok-push-in-Any
returns-in_ok-push-in-Any c =
    either_pushed (view c.args.f) (view c.args.g) _ (views c.in-Any.parts) (views c.push.new.self) (ap view c.in-Any.is ∙ view_Any c.in-Any.parts) c.in_ok-push-in-Any.ensures.ok (view_Any c.push.new.self)
