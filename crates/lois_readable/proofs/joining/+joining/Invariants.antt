use Rattle.std.proofs.Common.{◌+◌, ◌*◌, ℕ, [], ◌∷◌, take, map}
use Rattle.lois_base.specs.Data.{depth}
use Rattle.lois_base.specs.ListDepth.{depth_of_terms, depth_of_comps}
use Rattle.lois_base.specs.Tree.{tree, comp_of}
use Rattle.lois_simplify.specs.Simplification.{set_of}
use Rattle.lois_readable.specs.Joined.{IsKept}
use Rattle.lois_readable.proofs.Tuples.{ArePartsKept}
use Rattle.lois_readable.proofs.joining.+joining.Given as goal

-- each call goes into a part of the term, or on to a function of a lower rank
abbrev pub decreases-join : goal.decreases-join
decreases-join l = 4 * depth (tree l.term.now)

abbrev pub decreases-join_parts : goal.decreases-join_parts
decreases-join_parts l = 4 * depth_of_terms l.parts.now + 1

abbrev pub decreases-join_comps : goal.decreases-join_comps
decreases-join_comps l = 4 * depth_of_comps l.comps.now + 2

abbrev pub decreases-join_item : goal.decreases-join_item
decreases-join_item l = 4 * depth (tree l.comp.now.item) + 1

abbrev pub invariant-join_parts-loop-part : goal.invariant-join_parts-loop-part
invariant-join_parts-loop-part l =
    (n : ℕ) → ArePartsKept ([] ∷ []) n (map tree (take l.part-index l.part-items)) l.joined

abbrev pub invariant-join_comps-loop-comp : goal.invariant-join_comps-loop-comp
invariant-join_comps-loop-comp l =
    IsKept (set_of (map comp_of (take l.comp-index l.comp-items))) (set_of (map comp_of l.joined.items))
