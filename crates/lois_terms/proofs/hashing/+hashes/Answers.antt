use Rattle.std.proofs.Common.{arith}
use Rattle.lois_base.proofs.Parts.{term_within, comp_item_within}
use Rattle.lois_terms.proofs.hashing.+hashes.Goals as goal

pub hash_parts-hash_term-hash-requires : goal.hash_parts-hash_term-hash-requires
hash_parts-hash_term-hash-requires t c =
    omega (arith, term_within _ _ _ _ c.as_slice-part-items.ensures c.loop-part-test.true c.part-item.is)

pub hash_items-hash_comp-hash-requires : goal.hash_items-hash_comp-hash-requires
hash_items-hash_comp-hash-requires t c =
    omega (arith, comp_item_within _ _ _ _ c.as_slice-comp-items.ensures c.loop-comp-test.true c.comp-item.is)
