use Rattle.std.proofs.Common.{◌≡◌, ◌+◌, ◌^◌, ◌≤◌, take, drop, map}
use Rattle.lois_base.specs.Data.{terms_of, comps_of}
use Rattle.lois_base.specs.Shift.{shift, shift_comp, top_of_parts, top_of_items}
use Rattle.lois_base.specs.Tree.{tree, comp_of}
use Rattle.lois_terms.proofs.shifting.+shift.Given as goal

abbrev pub invariant-shifted_comps-loop-comp : goal.invariant-shifted_comps-loop-comp
invariant-shifted_comps-loop-comp l =
    (l.shifted ≡ map (shift_comp l.from l.by) (map comp_of (take l.comp-index l.comp-items))) × (top_of_items (comps_of (map comp_of (drop l.comp-index l.comp-items))) + l.by ≤ 2 ^ 64)

abbrev pub invariant-shifted_terms-loop-part : goal.invariant-shifted_terms-loop-part
invariant-shifted_terms-loop-part l =
    (l.shifted ≡ map (shift l.from l.by) (map tree (take l.part-index l.part-items))) × (top_of_parts (terms_of (map tree (drop l.part-index l.part-items))) + l.by ≤ 2 ^ 64)
