use Rattle.std.proofs.Common.{◌≡◌, map, take}
use Rattle.lois_base.specs.Tree.{comp_of}
use Rattle.lois_automata.specs.KeyShapes.{comp_key_shape}
use Rattle.lois_automata.proofs.keys.index_by_key.Given as goal

abbrev pub invariant-loop-comp : goal.invariant-loop-comp
invariant-loop-comp l = l.index ≡ map comp_key_shape (map comp_of (take l.comp-index l.comps))
