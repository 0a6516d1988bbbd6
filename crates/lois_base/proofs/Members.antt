-- What it is for values to be the same, in place of their terms and choices: an equivalence that members, inclusion and depth respect.
use Rattle.std.proofs.Common.{◌≡◌, ℕ, zero, suc, List, ◌++◌, refl, subst}
use mathlib.Core.Logic.{inl, inr}
use Rattle.lois_base.specs.Atom.{Atom}
use Rattle.lois_base.specs.Data.{TermD, var, tup, coll, TermsD, no_terms, term, CompD, comp, CompsD, no_comps, more}
use Rattle.lois_base.specs.Values.{PointValue, point, MemberAt, SameAt, SamePartsAt, AllInAt, EachInAt, InAt, DeeperAt, SomePartDeeperAt, SomeMemberDeeperAt, OneDeeperAt, IsMemberOf, IsMember, IsSame, IsIn, IsIncluded, IsDeeper}
use Rattle.lois_base.proofs.Same.{same_at_refl, same_at_sym, same_at_trans, all_in_is, is_all_in, is_some_is}

pub same_refl : (v : PointValue) → IsSame v v
same_refl v = same_at_refl v.term_of v.choice

pub same_sym : (v w : PointValue) → IsSame v w → IsSame w v
same_sym v w h = same_at_sym v.term_of v.choice w.term_of w.choice h

pub same_trans : (u v w : PointValue) → IsSame u v → IsSame v w → IsSame u w
same_trans u v w h k = same_at_trans u.term_of u.choice v.term_of v.choice w.term_of w.choice h k

-- values of different kinds are never the same
pub same_as_atom : (v w : PointValue) (i : ℕ) → v.term_of ≡ var i → IsSame v w → (j : ℕ) × (w.term_of ≡ var j)
same_as_atom v w i e h = go w.term_of (subst (λ t. SameAt t v.choice w.term_of w.choice) e h)
  where
    go : (s : TermD) → SameAt (var i) v.choice s w.choice → (j : ℕ) × (s ≡ var j)
    go (var j) k = (j, refl)
    go _ k = absurd k

pub same_as_set : (v w : PointValue) (ks : CompsD) → v.term_of ≡ coll ks → IsSame v w → (ls : CompsD) × (w.term_of ≡ coll ls)
same_as_set v w ks e h = go w.term_of (subst (λ t. SameAt t v.choice w.term_of w.choice) e h)
  where
    go : (s : TermD) → SameAt (coll ks) v.choice s w.choice → (ls : CompsD) × (s ≡ coll ls)
    go (coll ls) k = (ls, refl)
    go _ k = absurd k

pub member_in : (u v : PointValue) → IsMember u v → IsIn u v
member_in u v m = (u, m, same_refl u)

-- the element may be put in the place of one that is the same
pub in_same : (u v w : PointValue) → IsSame u v → IsIn u w → IsIn v w
in_same u v w h (x, m, s) = (x, m, same_trans v u x (same_sym u v h) s)

found_at : (t : TermD) (c : List Atom) (s : TermD) (d : List Atom) → SameAt t c s d → (u : PointValue) → IsMemberOf u.term_of u.choice t c → (x : PointValue) × IsMemberOf x.term_of x.choice s d × IsSame u x
found_at (coll cs) c (coll ss) d h u m =
    let i : InAt u.term_of u.choice ss d = all_in_is cs c ss d h.0 u.term_of u.choice m in
    (point i.0 i.1, i.2, i.3)
found_at _ c _ d h u m = absurd (assumption (h, m))

-- each member of a set is in a set that is the same
pub same_included : (v w : PointValue) → IsSame v w → IsIncluded v w
same_included v w h u m = found_at v.term_of v.choice w.term_of w.choice h u m

-- the set may be put in the place of one that is the same
pub same_in : (u v w : PointValue) → IsSame v w → IsIn u v → IsIn u w
same_in u v w h (x, m, s) = in_same x u w (same_sym u x s) (same_included v w h x m)

pub in_included : (u v w : PointValue) → IsIncluded v w → IsIn u v → IsIn u w
in_included u v w h (x, m, s) = in_same x u w (same_sym u x s) (h x m)

pub included_refl : (v : PointValue) → IsIncluded v v
included_refl v u m = member_in u v m

pub included_trans : (u v w : PointValue) → IsIncluded u v → IsIncluded v w → IsIncluded u w
included_trans u v w h k x m = in_included x v w k (h x m)

pub included_same : (v v' w w' : PointValue) → IsSame v v' → IsSame w w' → IsIncluded v w → IsIncluded v' w'
included_same v v' w w' h k i =
    included_trans v' v w' (same_included v' v (same_sym v v' h)) (included_trans v w w' i (same_included w w' k))

both_included : (t : TermD) (c : List Atom) (s : TermD) (d : List Atom) (ks ls : CompsD) → t ≡ coll ks → s ≡ coll ls → IsIncluded (point t c) (point s d) → IsIncluded (point s d) (point t c) → SameAt t c s d
both_included (coll cs) c (coll ss) d ks ls e f h k = (
  is_all_in cs c ss d (λ w x m. let i : IsIn (point w x) (point (coll ss) d) = h (point w x) m in ((i.0).term_of, (i.0).choice, i.1, i.2)),
  λ w x m. let i : IsIn (point w x) (point (coll cs) c) = k (point w x) m in
      is_some_is cs c w x (i.0).term_of (i.0).choice i.1 (same_sym (point w x) i.0 i.2),
)
both_included _ c _ d ks ls e f h k = absurd (cc)

-- sets each of which is included in the other are the same
pub same_sets : (v w : PointValue) (ks ls : CompsD) → v.term_of ≡ coll ks → w.term_of ≡ coll ls → IsIncluded v w → IsIncluded w v → IsSame v w
same_sets v w ks ls e f h k = both_included v.term_of v.choice w.term_of w.choice ks ls e f h k

pub member_deeper : (ks : CompsD) (c : List Atom) (n : ℕ) (w : TermD) (x : List Atom) → MemberAt w x ks c → DeeperAt w x n → SomeMemberDeeperAt ks c n
member_deeper no_comps c n w x m h = m
member_deeper (more (comp m g t) ks) c n w x (inl k) h =
    inl (k.0, k.1, subst (λ z. DeeperAt t z n) k.3 (subst (λ u. DeeperAt u x n) k.2 h))
member_deeper (more k ks) c n w x (inr m) h = inr (member_deeper ks c n w x m h)

mutual
  deeper_at : (t : TermD) (c : List Atom) (s : TermD) (d : List Atom) (n : ℕ) → SameAt t c s d → DeeperAt t c n → DeeperAt s d n
  deeper_at (tup ts) c (tup ss) d zero h g = tt
  deeper_at (tup ts) c (tup ss) d (suc n) h g = part_deeper ts c ss d n h g
  deeper_at (coll cs) c (coll ss) d zero h g = tt
  deeper_at (coll cs) c (coll ss) d (suc n) h g = some_deeper cs c ss d n h.0 g
  deeper_at _ c _ d n h g = absurd (assumption (h, g))

  part_deeper : (ts : TermsD) (c : List Atom) (ss : TermsD) (d : List Atom) (n : ℕ) → SamePartsAt ts c ss d → SomePartDeeperAt ts c n → SomePartDeeperAt ss d n
  part_deeper (term t ts) c (term s ss) d n h (inl g) = inl (deeper_at t c s d n h.0 g)
  part_deeper (term t ts) c (term s ss) d n h (inr g) = inr (part_deeper ts c ss d n h.1 g)
  part_deeper (term t ts) c no_terms d n h g = absurd h
  part_deeper no_terms c _ d n h g = absurd g

  some_deeper : (ks : CompsD) (c : List Atom) (ss : CompsD) (d : List Atom) (n : ℕ) → AllInAt ks c ss d → SomeMemberDeeperAt ks c n → SomeMemberDeeperAt ss d n
  some_deeper no_comps c ss d n h g = absurd g
  some_deeper (more k ks) c ss d n h (inl g) = one_deeper k c ss d n h.0 g
  some_deeper (more k ks) c ss d n h (inr g) = some_deeper ks c ss d n h.1 g

  one_deeper : (k : CompD) (c : List Atom) (ss : CompsD) (d : List Atom) (n : ℕ) → EachInAt k c ss d → OneDeeperAt k c n → SomeMemberDeeperAt ss d n
  one_deeper (comp m g t) c ss d n h (e, x, deep) =
      let i : InAt t (c ++ e) ss d = h e x in
      member_deeper ss d n i.0 i.1 i.2 (deeper_at t (c ++ e) i.0 i.1 n i.3 deep)

pub deeper_same : (v w : PointValue) (n : ℕ) → IsSame v w → IsDeeper v n → IsDeeper w n
deeper_same v w n h g = deeper_at v.term_of v.choice w.term_of w.choice n h g
