use Rattle.std.proofs.Common.{drop, map, ◌↔◌}
use Rattle.lois_base.specs.Data.{terms_of, comps_of}
use Rattle.lois_base.specs.Fits.{PartsFit, ItemsFit}
use Rattle.lois_base.specs.Tree.{tree, comp_of}
use Rattle.lois_base.proofs.values.+fits.Given as goal

abbrev pub invariant-Comps::fits-loop-item : goal.invariant-Comps::fits-loop-item
invariant-Comps::fits-loop-item l =
    ItemsFit l.size (comps_of l.self) ↔ ItemsFit l.size (comps_of (map comp_of (drop l.item-index l.item-items)))

abbrev pub invariant-Terms::fits-loop-item : goal.invariant-Terms::fits-loop-item
invariant-Terms::fits-loop-item l =
    PartsFit l.size (terms_of l.self) ↔ PartsFit l.size (terms_of (map tree (drop l.item-index l.item-items)))
