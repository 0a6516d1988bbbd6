use Rattle.std.proofs.Common.{take}
use Rattle.std.specs.List.{All}
use Rattle.lois_base.specs.Tree.{tree}
use Rattle.lois_picture.proofs.FoundNodes.{IsOutsideAt}
use Rattle.lois_picture.proofs.linking.find_node.Given as goal

abbrev pub invariant-loop-position : goal.invariant-loop-position
invariant-loop-position g l =
    All (IsOutsideAt g.T.Structure.ordered l.nodes (tree l.t) l.sample) (take l.position-index l.position-items)
