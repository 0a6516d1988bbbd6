use Rattle.std.proofs.Common.{◌≤◌, ◌↔◌, ◌+◌, ◌*◌, drop, map}
use Rattle.lois_base.specs.ListDepth.{depth_of_terms, depth_of_comps}
use Rattle.lois_base.specs.Tree.{tree, comp_of}
use Rattle.lois_terms.proofs.reading.+depth.Given as goal

abbrev pub invariant-are_items_within_depth-loop-comp : goal.invariant-are_items_within_depth-loop-comp
invariant-are_items_within_depth-loop-comp l =
    (depth_of_comps l.comps ≤ l.limit) ↔ (depth_of_comps (map comp_of (drop l.comp-index l.comp-items)) ≤ l.limit)

abbrev pub invariant-are_parts_within_depth-loop-part : goal.invariant-are_parts_within_depth-loop-part
invariant-are_parts_within_depth-loop-part l =
    (depth_of_terms l.terms ≤ l.limit) ↔ (depth_of_terms (map tree (drop l.part-index l.part-items)) ≤ l.limit)

-- the limit falls with each call into a part
abbrev pub decreases-are_items_within_depth : goal.decreases-are_items_within_depth
decreases-are_items_within_depth l = 2 * l.limit + 1

abbrev pub decreases-are_parts_within_depth : goal.decreases-are_parts_within_depth
decreases-are_parts_within_depth l = 2 * l.limit + 1

abbrev pub decreases-is_within_depth : goal.decreases-is_within_depth
decreases-is_within_depth l = 2 * l.limit
