use Rattle.std.proofs.Common.{ap}
use Rattle.lois_base.specs.Data.{comps_of}
use Rattle.lois_base.specs.Tree.{tree}
use Rattle.lois_equal.proofs.Sinks.{item_put}
use Rattle.lois_equal.proofs.completion.with_item.Goals as goal

pub returns-clause-members : goal.returns-clause-members
returns-clause-members c =
    item_put (comps_of c.args.items.now) (tree c.args.item.now) (comps_of c.in_ok-all.all) (comps_of c.push_comp.new.comps) c.in_ok-guard.guard (tree c.in_ok-item.item) (ap comps_of c.in_ok-all.ensures) c.in_ok-guard.ensures (ap tree c.in_ok-item.ensures) c.in_ok-push_comp.ensures.added
