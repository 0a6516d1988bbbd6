use Rattle.std.proofs.Common.{ap}
use Rattle.lois_base.specs.Tree.{tree}
use Rattle.lois_minimise.proofs.ClassTerms.{pushed_single}
use Rattle.lois_minimise.proofs.classing.single.Goals as goal

pub returns-clause-members : goal.returns-clause-members
returns-clause-members c =
    pushed_single (tree c.args.item.now) (tree c.in_ok-copy.field-0) c.in_ok-always.field-0 c.new-items.result c.push.new.self c.new-items.ensures c.in_ok-push.ensures.ok c.in_ok-always.ensures (ap tree c.in_ok-copy.ensures)
