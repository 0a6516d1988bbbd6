use Rattle.std.proofs.Common.{drop, map, ◌↔◌, ◌≤◌}
use Rattle.lois_base.specs.ListDepth.{depth_of_terms, depth_of_comps}
use Rattle.lois_base.specs.Tree.{tree, comp_of}
use Rattle.lois_answers.proofs.sound.+brackets.Given as goal

-- what is left decides
abbrev pub invariant-parts_open_at_most-loop-part : goal.invariant-parts_open_at_most-loop-part
invariant-parts_open_at_most-loop-part l =
    (depth_of_terms l.parts ≤ l.brackets) ↔ (depth_of_terms (map tree (drop l.part-index l.part-items)) ≤ l.brackets)

abbrev pub invariant-items_open_at_most-loop-comp : goal.invariant-items_open_at_most-loop-comp
invariant-items_open_at_most-loop-comp l =
    (depth_of_comps l.comps ≤ l.brackets) ↔ (depth_of_comps (map comp_of (drop l.comp-index l.comp-items)) ≤ l.brackets)
