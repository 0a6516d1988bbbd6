use Rattle.std.proofs.Common.{◌≡◌, take}
use Rattle.lois_terms.specs.Hash.{guard_hash}
use Rattle.lois_terms.proofs.hashing.hash_guard.Given as goal

abbrev pub invariant-loop-cube : goal.invariant-loop-cube
invariant-loop-cube l = l.hash ≡ guard_hash l.seed (take l.cube-index l.cube-items)
