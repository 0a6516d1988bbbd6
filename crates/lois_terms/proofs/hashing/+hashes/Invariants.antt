use Rattle.std.proofs.Common.{◌≡◌, drop, map}
use Rattle.lois_base.specs.Data.{terms_of, comps_of}
use Rattle.lois_base.specs.Tree.{tree, comp_of}
use Rattle.lois_terms.specs.Hash.{parts_hash, items_hash}
use Rattle.lois_terms.proofs.hashing.+hashes.Given as goal

-- what is left takes the hash to that of the whole
abbrev pub invariant-hash_parts-loop-part : goal.invariant-hash_parts-loop-part
invariant-hash_parts-loop-part l =
    parts_hash l.seed (terms_of l.parts) ≡ parts_hash l.hash (terms_of (map tree (drop l.part-index l.part-items)))

abbrev pub invariant-hash_items-loop-comp : goal.invariant-hash_items-loop-comp
invariant-hash_items-loop-comp l =
    items_hash l.seed (comps_of l.comps) ≡ items_hash l.hash (comps_of (map comp_of (drop l.comp-index l.comp-items)))
