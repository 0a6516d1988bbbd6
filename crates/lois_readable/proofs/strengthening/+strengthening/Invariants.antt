use Rattle.std.proofs.Common.{◌+◌, ◌*◌, take, map}
use Rattle.lois_base.specs.Data.{depth}
use Rattle.lois_base.specs.ListDepth.{depth_of_terms, depth_of_comps}
use Rattle.lois_base.specs.Tree.{tree, comp_of}
use Rattle.lois_simplify.specs.Simplification.{IsSimplification, set_of}
use Rattle.lois_readable.proofs.Tuples.{ArePartsKept}
use Rattle.lois_readable.proofs.strengthening.+strengthening.Given as goal

-- each call goes into a part of the term, or on to a function of a lower rank
abbrev pub decreases-strengthen : goal.decreases-strengthen
decreases-strengthen l = 4 * depth (tree l.term.now)

abbrev pub decreases-strengthen_parts : goal.decreases-strengthen_parts
decreases-strengthen_parts l = 4 * depth_of_terms l.parts.now + 1

abbrev pub decreases-strengthen_comps : goal.decreases-strengthen_comps
decreases-strengthen_comps l = 4 * depth_of_comps l.comps.now + 2

abbrev pub decreases-strengthen_comp : goal.decreases-strengthen_comp
decreases-strengthen_comp l = 4 * depth (tree l.comp.now.item) + 1

abbrev pub invariant-strengthen_parts-loop-part : goal.invariant-strengthen_parts-loop-part
invariant-strengthen_parts-loop-part l =
    ArePartsKept l.under l.size (map tree (take l.part-index l.part-items)) l.strong

abbrev pub invariant-strengthen_comps-loop-comp : goal.invariant-strengthen_comps-loop-comp
invariant-strengthen_comps-loop-comp l =
    IsSimplification l.under l.size (set_of (map comp_of (take l.comp-index l.comp-items))) (set_of l.strong)
