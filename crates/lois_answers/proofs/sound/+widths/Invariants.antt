use Rattle.std.proofs.Common.{drop, map, ◌↔◌}
use Rattle.lois_base.specs.Data.{terms_of, comps_of}
use Rattle.lois_base.specs.Tree.{tree, comp_of}
use Rattle.lois_base.specs.Validity.{PartsHaveBoundedWidths, ItemsHaveBoundedWidths}
use Rattle.lois_answers.proofs.sound.+widths.Given as goal

-- what is left decides
abbrev pub invariant-parts_have_usual_widths-loop-part : goal.invariant-parts_have_usual_widths-loop-part
invariant-parts_have_usual_widths-loop-part l =
    PartsHaveBoundedWidths (terms_of l.parts) ↔ PartsHaveBoundedWidths (terms_of (map tree (drop l.part-index l.part-items)))

abbrev pub invariant-items_have_usual_widths-loop-comp : goal.invariant-items_have_usual_widths-loop-comp
invariant-items_have_usual_widths-loop-comp l =
    ItemsHaveBoundedWidths (comps_of l.comps) ↔ ItemsHaveBoundedWidths (comps_of (map comp_of (drop l.comp-index l.comp-items)))
