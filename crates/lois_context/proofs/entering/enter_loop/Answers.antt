use Rattle.std.proofs.Common.{ap}
use Rattle.std.proofs.lemmas.Result.{IfOk-weaker}
use Rattle.lois_base.specs.Tree.{tree}
use Rattle.lois_context.specs.Entered.{AreMemberContexts}
use Rattle.lois_context.proofs.Entered.{are_entered}
use Rattle.lois_context.proofs.entering.enter_loop.Goals as goal

pub returns-clause-entered : goal.returns-clause-entered
returns-clause-entered g c =
    IfOk-weaker c.entries.result (λ r. AreMemberContexts c.args.context.now c.args.name.now c.in-Coll.comps r.items) _
    (λ r h. are_entered c.args.context.now c.args.name.now (tree c.args.elements.now) c.in-Coll.comps (ap tree c.in-Coll.is) r.items h c.requires.new_name) c.entries.ensures.entries
