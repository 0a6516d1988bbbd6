use Rattle.std.proofs.Common.{take, map}
use Rattle.lois_base.specs.Data.{terms_of, comps_of}
use Rattle.lois_base.specs.Tree.{tree, comp_of}
use Rattle.lois_strict.specs.Split.{PartsAreSplit, ItemsAreSplit}
use Rattle.lois_strict.proofs.terms.+splitting.Given as goal

abbrev pub invariant-split_items-loop-comp : goal.invariant-split_items-loop-comp
invariant-split_items-loop-comp l =
    ItemsAreSplit (comps_of (map comp_of (take l.comp-index l.comp-items))) (comps_of l.split)

abbrev pub invariant-split_parts-loop-part : goal.invariant-split_parts-loop-part
invariant-split_parts-loop-part l =
    PartsAreSplit (terms_of (map tree (take l.part-index l.part-items))) (terms_of l.split)
