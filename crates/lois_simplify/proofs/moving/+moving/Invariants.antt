use Rattle.std.proofs.Common.{◌≡◌, take, map}
use Rattle.lois_base.specs.Rename.{rename, rename_comp}
use Rattle.lois_base.specs.Tree.{tree, comp_of}
use Rattle.lois_simplify.specs.Moved.{moved}
use Rattle.lois_simplify.proofs.moving.+moving.Given as goal

abbrev pub invariant-moved_comps-loop-comp : goal.invariant-moved_comps-loop-comp
invariant-moved_comps-loop-comp l =
    l.moved ≡ map (rename_comp (moved l.gone l.to)) (map comp_of (take l.comp-index l.comp-items))

abbrev pub invariant-moved_terms-loop-part : goal.invariant-moved_terms-loop-part
invariant-moved_terms-loop-part l =
    l.moved ≡ map (rename (moved l.gone l.to)) (map tree (take l.part-index l.part-items))
