use Rattle.std.proofs.Common.{◌≡◌, map}
use Rattle.lois_base.specs.Tree.{comp_of}
use Rattle.lois_terms.specs.Hash.{written_hash}
use Rattle.lois_simplify.proofs.Seen.{HasSeen}
use Rattle.lois_simplify.proofs.distinct.distinct.Given as goal

abbrev pub invariant-loop-comp : goal.invariant-loop-comp
invariant-loop-comp l = record {
  seen : HasSeen (map comp_of l.yielded) l.fn.comps l.kept;
  index : l.index ≡ map written_hash l.kept;
}
