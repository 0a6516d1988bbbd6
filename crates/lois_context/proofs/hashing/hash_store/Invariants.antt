use Rattle.std.proofs.Common.{◌≡◌, drop, map}
use Rattle.lois_context.specs.Hash.{store_hash}
use Rattle.lois_context.specs.SlotView.{slot_of}
use Rattle.lois_context.proofs.hashing.hash_store.Given as goal

abbrev pub invariant-loop-slot : goal.invariant-loop-slot
invariant-loop-slot l = store_hash l.seed l.store ≡ store_hash l.hash (map slot_of (drop l.slot-index l.slot-items))
