-- No set is a member of itself.
use Rattle.std.proofs.Common.{ℕ, zero, suc, List, arith}
use Rattle.lois_base.specs.Atom.{Atom}
use Rattle.lois_base.specs.Data.{coll, CompsD, depth}
use Rattle.lois_base.specs.Values.{point, IsIn, DeeperAt}
use Rattle.lois_base.proofs.Depths.{deeper_depth}
use Rattle.lois_base.proofs.Members.{deeper_same, member_deeper}

-- a set that is its own member is deeper than each number
ever_deeper : (ks : CompsD) (c : List Atom) → IsIn (point (coll ks) c) (point (coll ks) c) → (n : ℕ) → DeeperAt (coll ks) c n
ever_deeper ks c h zero = tt
ever_deeper ks c h (suc n) = member_deeper ks c n h.0.term_of h.0.choice h.1 (deeper_same (point (coll ks) c) h.0 n h.2 (ever_deeper ks c h n))

pub not_in_itself : (ks : CompsD) (c : List Atom) → IsIn (point (coll ks) c) (point (coll ks) c) → ⊥
not_in_itself ks c h = omega (arith, deeper_depth (point (coll ks) c) (depth (coll ks)) (ever_deeper ks c h (depth (coll ks))))
