use Rattle.std.proofs.Common.{sym, ◌∙◌}
use Rattle.lois_base.specs.Truth.{holds}
use Rattle.lois_order.proofs.Projects.{put_absurd}
use Rattle.lois_order.proofs.rule.put.Goals as goal

pub returns-then-contradicts-clause-holds : goal.returns-then-contradicts-clause-holds
returns-then-contradicts-clause-holds c = λ e. put_absurd e c.args.cube (sym c.contradicts.ensures ∙ c.if-contradicts.true) (holds e c.args.answer.now)
