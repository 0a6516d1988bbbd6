use Rattle.std.proofs.Common.{◌+◌, ◌*◌, take, map}
use Rattle.lois_base.specs.Data.{depth}
use Rattle.lois_base.specs.ListDepth.{depth_of_terms, depth_of_comps}
use Rattle.lois_base.specs.Tree.{tree, comp_of}
use Rattle.lois_simplify.specs.Simplification.{IsSimplification, set_of}
use Rattle.lois_readable.proofs.Tuples.{ArePartsKept}
use Rattle.lois_readable.proofs.splitting.+splitting.Given as goal

-- each call goes into a part of the term, or on to a function of a lower rank
abbrev pub decreases-split : goal.decreases-split
decreases-split l = 4 * depth (tree l.term.now)

abbrev pub decreases-split_parts : goal.decreases-split_parts
decreases-split_parts l = 4 * depth_of_terms l.parts.now + 1

abbrev pub decreases-split_comps : goal.decreases-split_comps
decreases-split_comps l = 4 * depth_of_comps l.comps.now + 2

abbrev pub decreases-put_split : goal.decreases-put_split
decreases-put_split l = 4 * depth (tree l.comp.now.item) + 1

abbrev pub invariant-split_parts-loop-part : goal.invariant-split_parts-loop-part
invariant-split_parts-loop-part l =
    ArePartsKept l.under l.size (map tree (take l.part-index l.part-items)) l.parted

abbrev pub invariant-split_comps-loop-comp : goal.invariant-split_comps-loop-comp
invariant-split_comps-loop-comp l =
    IsSimplification l.under l.size (set_of (map comp_of (take l.comp-index l.comp-items))) (set_of l.parted)
