-- Loops over comprehensions that look for the first of which something can be made.
use Rattle.std.proofs.Common.{◌≡◌, ℕ, zero, suc, ◌<◌, inl, inr, List, [], ◌∷◌, length, get_or, map, subst, arith}
use Rattle.lois_base.specs.Atom.{Atom}
use Rattle.lois_base.specs.Data.{CompD, comps_of}
use Rattle.lois_base.specs.Tree.{comp_of}
use Rattle.lois_base.specs.Values.{PointValue}
use Rattle.lois_base.specs.declared.values.Comp.{Comp}
use Rattle.lois_algebra.specs.Gathered.{IsAmong, IsCompMember}

among_at : (items : List Comp) (i : ℕ) (k : Comp) → i < length items → k ≡ get_or items i k → (c : List Atom) (w : PointValue) → IsCompMember (comp_of k) c w → IsAmong (comps_of (map comp_of items)) c w
among_at [] i k l is c w h = absurd (omega arith)
among_at (x ∷ xs) zero k l is c w h = inl (subst (λ z. IsCompMember (comp_of z) c w) is h)
among_at (x ∷ xs) (suc i) k l is c w h = inr (among_at xs i k (omega arith) is c w h)

-- what one of the comprehensions makes, the list makes
pub among_item : (items : List Comp) (vs : List CompD) (i : ℕ) (k : Comp) → map comp_of items ≡ vs → i < length items → k ≡ get_or items i k → (c : List Atom) (w : PointValue) → IsCompMember (comp_of k) c w → IsAmong (comps_of vs) c w
among_item items vs i k e l is c w h = subst (λ z. IsAmong (comps_of z) c w) e (among_at items i k l is c w h)
