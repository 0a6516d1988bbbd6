use Rattle.std.proofs.Common.{drop, map, ◌↔◌}
use Rattle.lois_base.specs.Data.{terms_of, comps_of}
use Rattle.lois_base.specs.Normal.{OccursInPart, OccursInItem}
use Rattle.lois_base.specs.Tree.{tree, comp_of}
use Rattle.lois_terms.proofs.reading.+occurs.Given as goal

abbrev pub invariant-occurs_in_items-loop-comp : goal.invariant-occurs_in_items-loop-comp
invariant-occurs_in_items-loop-comp l =
    OccursInItem l.level (comps_of l.comps) ↔ OccursInItem l.level (comps_of (map comp_of (drop l.comp-index l.comp-items)))

abbrev pub invariant-occurs_in_parts-loop-part : goal.invariant-occurs_in_parts-loop-part
invariant-occurs_in_parts-loop-part l =
    OccursInPart l.level (terms_of l.terms) ↔ OccursInPart l.level (terms_of (map tree (drop l.part-index l.part-items)))
