use Rattle.std.proofs.Common.{drop, map}
use Rattle.lois_base.specs.Data.{terms_of, comps_of}
use Rattle.lois_base.specs.Tree.{tree, comp_of}
use Rattle.lois_answers.specs.Sound.{PartsHaveTags, ItemsHaveTags}
use Rattle.lois_answers.proofs.sound.+tags.Given as goal

-- only what is left is still open
abbrev pub invariant-part_tags_are_names-loop-part : goal.invariant-part_tags_are_names-loop-part
invariant-part_tags_are_names-loop-part l =
    PartsHaveTags (terms_of (map tree (drop l.part-index l.part-items))) → PartsHaveTags (terms_of l.parts)

abbrev pub invariant-item_tags_are_names-loop-comp : goal.invariant-item_tags_are_names-loop-comp
invariant-item_tags_are_names-loop-comp l =
    ItemsHaveTags (comps_of (map comp_of (drop l.comp-index l.comp-items))) → ItemsHaveTags (comps_of l.comps)
