use Rattle.std.proofs.Common.{◌≡◌, drop, map}
use Rattle.lois_base.specs.Tree.{comp_of}
use Rattle.lois_context.specs.Hash.{comps_hash}
use Rattle.lois_context.proofs.hashing.hash_comps.Given as goal

abbrev pub invariant-loop-comp : goal.invariant-loop-comp
invariant-loop-comp l = comps_hash l.seed (map comp_of l.comps) ≡ comps_hash l.hash (map comp_of (drop l.comp-index l.comps))
