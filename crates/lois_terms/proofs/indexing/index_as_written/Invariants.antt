use Rattle.std.proofs.Common.{◌≡◌, map, take}
use Rattle.lois_base.specs.Tree.{comp_of}
use Rattle.lois_terms.specs.Hash.{written_hash}
use Rattle.lois_terms.proofs.indexing.index_as_written.Given as goal

abbrev pub invariant-loop-comp : goal.invariant-loop-comp
invariant-loop-comp l = l.index ≡ map written_hash (map comp_of (take l.comp-index l.comps))
