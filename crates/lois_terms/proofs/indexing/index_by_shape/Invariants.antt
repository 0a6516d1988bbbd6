use Rattle.std.proofs.Common.{◌≡◌, map, take}
use Rattle.lois_base.specs.Tree.{comp_of}
use Rattle.lois_terms.specs.Shapes.{item_shape}
use Rattle.lois_terms.proofs.indexing.index_by_shape.Given as goal

abbrev pub invariant-loop-comp : goal.invariant-loop-comp
invariant-loop-comp l = l.index ≡ map item_shape (map comp_of (take l.comp-index l.comps))
