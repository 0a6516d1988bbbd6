use Rattle.std.proofs.Common.{drop, map, ◌↔◌}
use Rattle.lois_base.specs.Data.{terms_of, comps_of}
use Rattle.lois_base.specs.Tree.{tree, comp_of}
use Rattle.lois_base.specs.Validity.{AdmitsParts, AdmitsItems}
use Rattle.lois_answers.proofs.sound.+operators.Given as goal

-- what is left decides
abbrev pub invariant-admits_parts-loop-part : goal.invariant-admits_parts-loop-part
invariant-admits_parts-loop-part l =
    AdmitsParts l.ordered (terms_of l.parts) ↔ AdmitsParts l.ordered (terms_of (map tree (drop l.part-index l.part-items)))

abbrev pub invariant-admits_items-loop-comp : goal.invariant-admits_items-loop-comp
invariant-admits_items-loop-comp l =
    AdmitsItems l.ordered (comps_of l.comps) ↔ AdmitsItems l.ordered (comps_of (map comp_of (drop l.comp-index l.comp-items)))
