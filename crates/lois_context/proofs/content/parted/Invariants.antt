use Rattle.std.proofs.Common.{map}
use Rattle.lois_base.specs.Tree.{comp_of}
use Rattle.lois_context.specs.Put.{AreParts}
use Rattle.lois_context.proofs.content.parted.Given as goal

abbrev pub invariant-loop-comp : goal.invariant-loop-comp
invariant-loop-comp l = AreParts l.first (map comp_of l.yielded) l.old l.added
