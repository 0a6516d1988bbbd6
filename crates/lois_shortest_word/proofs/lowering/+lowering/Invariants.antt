use Rattle.std.proofs.Common.{◌≡◌, take, map}
use Rattle.lois_base.specs.Rename.{rename, rename_comp}
use Rattle.lois_base.specs.Tree.{tree, comp_of}
use Rattle.lois_shortest_word.specs.Shortened.{lowered}
use Rattle.lois_shortest_word.proofs.lowering.+lowering.Given as goal

abbrev pub invariant-lowered_comps-loop-comp : goal.invariant-lowered_comps-loop-comp
invariant-lowered_comps-loop-comp l =
    l.low ≡ map (rename_comp (lowered l.gone)) (map comp_of (take l.comp-index l.comp-items))

abbrev pub invariant-lowered_terms-loop-part : goal.invariant-lowered_terms-loop-part
invariant-lowered_terms-loop-part l =
    l.low ≡ map (rename (lowered l.gone)) (map tree (take l.part-index l.part-items))
