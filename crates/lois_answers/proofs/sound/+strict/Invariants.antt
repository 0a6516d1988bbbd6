use Rattle.std.proofs.Common.{drop, map, ◌↔◌}
use Rattle.lois_base.specs.Data.{terms_of, comps_of}
use Rattle.lois_base.specs.Tree.{tree, comp_of}
use Rattle.lois_base.specs.Validity.{PartsAreStrict, ItemsAreStrict}
use Rattle.lois_answers.proofs.sound.+strict.Given as goal

-- what is left decides
abbrev pub invariant-are_strict_parts-loop-part : goal.invariant-are_strict_parts-loop-part
invariant-are_strict_parts-loop-part l =
    PartsAreStrict (terms_of l.parts) ↔ PartsAreStrict (terms_of (map tree (drop l.part-index l.part-items)))

abbrev pub invariant-are_strict_items-loop-comp : goal.invariant-are_strict_items-loop-comp
invariant-are_strict_items-loop-comp l =
    ItemsAreStrict (comps_of l.comps) ↔ ItemsAreStrict (comps_of (map comp_of (drop l.comp-index l.comp-items)))
