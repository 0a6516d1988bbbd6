use Rattle.std.proofs.Common.{take, map}
use Rattle.lois_base.specs.Tree.{comp_of}
use Rattle.lois_context.specs.Joined.{IsWithMoved}
use Rattle.lois_context.proofs.joining.with_moved.Given as goal

abbrev pub invariant-loop-comp : goal.invariant-loop-comp
invariant-loop-comp l = IsWithMoved l.size l.when l.by (map comp_of (take l.comp-index l.added)) l.fn.comps l.joined
