use Rattle.std.proofs.Common.{◌+◌, ◌*◌}
use Rattle.lois_base.specs.Data.{depth}
use Rattle.lois_base.specs.ListDepth.{depth_of_terms}
use Rattle.lois_base.specs.Tree.{tree}
use Rattle.lois_relate.proofs.clashes.+clashing.Given as goal

-- each call goes into a part of the first term
abbrev pub decreases-clash : goal.decreases-clash
decreases-clash l = 2 * depth (tree l.s.now)

abbrev pub decreases-parts_clash : goal.decreases-parts_clash
decreases-parts_clash l = 2 * depth_of_terms l.terms.now + 1
