use Rattle.std.proofs.Common.{◌≡◌, ◌+◌, ◌*◌, drop, map, max}
use Rattle.lois_base.specs.Data.{depth}
use Rattle.lois_base.specs.ListDepth.{depth_of_terms, depth_of_comps}
use Rattle.lois_base.specs.Tree.{tree, comp_of}
use Rattle.lois_terms.proofs.reading.+height.Given as goal

abbrev pub invariant-greatest_height_of_items-loop-comp : goal.invariant-greatest_height_of_items-loop-comp
invariant-greatest_height_of_items-loop-comp l =
    max l.greatest (depth_of_comps (map comp_of (drop l.comp-index l.comp-items))) ≡ depth_of_comps l.comps

abbrev pub invariant-greatest_height_of_parts-loop-part : goal.invariant-greatest_height_of_parts-loop-part
invariant-greatest_height_of_parts-loop-part l =
    max l.greatest (depth_of_terms (map tree (drop l.part-index l.part-items))) ≡ depth_of_terms l.terms

-- the depth falls with each call into a part
abbrev pub decreases-greatest_height_of_items : goal.decreases-greatest_height_of_items
decreases-greatest_height_of_items l = 2 * depth_of_comps l.comps.now + 1

abbrev pub decreases-greatest_height_of_parts : goal.decreases-greatest_height_of_parts
decreases-greatest_height_of_parts l = 2 * depth_of_terms l.terms.now + 1

abbrev pub decreases-height : goal.decreases-height
decreases-height l = 2 * depth (tree l.t.now)
