use Rattle.std.proofs.Common.{◌≡◌, map, take, slice_get, Some}
use Rattle.std.specs.List.{All}
use Rattle.lois_base.specs.Tree.{comp_of}
use Rattle.lois_terms.proofs.indexing.is_written_in.Given as goal

abbrev pub invariant-loop-position : goal.invariant-loop-position
invariant-loop-position l =
    All (λ i. slice_get (map comp_of l.comps) i ≡ Some (comp_of l.comp) → ⊥) (take l.position-index l.position-items)
