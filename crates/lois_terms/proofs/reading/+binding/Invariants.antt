use Rattle.std.proofs.Common.{◌↔◌, drop, map}
use Rattle.lois_base.specs.Data.{terms_of, comps_of}
use Rattle.lois_base.specs.Tree.{tree, comp_of}
use Rattle.lois_terms.specs.Binding.{PartsBindNothing, ItemsBindNothing}
use Rattle.lois_terms.proofs.reading.+binding.Given as goal

abbrev pub invariant-items_bind_nothing-loop-comp : goal.invariant-items_bind_nothing-loop-comp
invariant-items_bind_nothing-loop-comp l =
    ItemsBindNothing (comps_of l.comps) ↔ ItemsBindNothing (comps_of (map comp_of (drop l.comp-index l.comp-items)))

abbrev pub invariant-parts_bind_nothing-loop-part : goal.invariant-parts_bind_nothing-loop-part
invariant-parts_bind_nothing-loop-part l =
    PartsBindNothing (terms_of l.terms) ↔ PartsBindNothing (terms_of (map tree (drop l.part-index l.part-items)))
