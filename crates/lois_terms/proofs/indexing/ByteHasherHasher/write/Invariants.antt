use Rattle.std.proofs.Common.{◌≡◌, take}
use Rattle.lois_terms.specs.Hash.{after_bytes}
use Rattle.lois_terms.proofs.indexing.ByteHasherHasher.write.Given as goal

abbrev pub invariant-loop-byte : goal.invariant-loop-byte
invariant-loop-byte l = l.state ≡ after_bytes l.fn.self.state (take l.byte-index l.bytes)
