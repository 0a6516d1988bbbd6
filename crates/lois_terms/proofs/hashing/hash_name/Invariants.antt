use Rattle.std.proofs.Common.{◌≡◌, take}
use Rattle.lois_terms.specs.Hash.{name_hash}
use Rattle.lois_terms.proofs.hashing.hash_name.Given as goal

abbrev pub invariant-loop-byte : goal.invariant-loop-byte
invariant-loop-byte l = l.hash ≡ name_hash l.seed (take l.byte-index l.byte-items)
