use Rattle.std.proofs.Common.{◌≡◌, take}
use Rattle.lois_terms.specs.Hash.{cube_hash}
use Rattle.lois_terms.proofs.hashing.hash_cube.Given as goal

abbrev pub invariant-loop-lit : goal.invariant-loop-lit
invariant-loop-lit l = l.hash ≡ cube_hash l.seed (take l.lit-index l.lit-items)
