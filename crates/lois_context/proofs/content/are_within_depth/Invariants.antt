use Rattle.std.proofs.Common.{◌<◌, take, map}
use Rattle.lois_base.specs.ListDepth.{depth_of_comps}
use Rattle.lois_base.specs.Tree.{comp_of}
use Rattle.lois_context.proofs.content.are_within_depth.Given as goal

abbrev pub invariant-loop-comp : goal.invariant-loop-comp
invariant-loop-comp l = depth_of_comps (map comp_of (take l.comp-index l.comps)) < l.limit
