-- How deep a value is, against how deeply its term is written.
use Rattle.std.proofs.Common.{ℕ, zero, suc, ◌<◌, inl, inr, List, ◌++◌, arith}
use Rattle.lois_base.specs.Atom.{Atom}
use Rattle.lois_base.specs.Data.{TermD, var, tag, tup, coll, TermsD, no_terms, term, CompD, comp, CompsD, no_comps, more, depth, depth_of_parts, depth_of_comp, depth_of_items}
use Rattle.lois_base.specs.Values.{PointValue, DeeperAt, SomePartDeeperAt, SomeMemberDeeperAt, OneDeeperAt, IsDeeper}

mutual
  less_at : (t : TermD) (c : List Atom) (n : ℕ) → DeeperAt t c (suc n) → DeeperAt t c n
  less_at (var i) c n h = h
  less_at (tag name) c n h = h
  less_at (tup ts) c zero h = tt
  less_at (tup ts) c (suc n) h = part_less ts c n h
  less_at (coll cs) c zero h = tt
  less_at (coll cs) c (suc n) h = member_less cs c n h

  part_less : (ts : TermsD) (c : List Atom) (n : ℕ) → SomePartDeeperAt ts c (suc n) → SomePartDeeperAt ts c n
  part_less no_terms c n h = h
  part_less (term t ts) c n (inl h) = inl (less_at t c n h)
  part_less (term t ts) c n (inr h) = inr (part_less ts c n h)

  member_less : (ks : CompsD) (c : List Atom) (n : ℕ) → SomeMemberDeeperAt ks c (suc n) → SomeMemberDeeperAt ks c n
  member_less no_comps c n h = h
  member_less (more k ks) c n (inl h) = inl (one_less k c n h)
  member_less (more k ks) c n (inr h) = inr (member_less ks c n h)

  one_less : (k : CompD) (c : List Atom) (n : ℕ) → OneDeeperAt k c (suc n) → OneDeeperAt k c n
  one_less (comp m g t) c n (e, x, h) = (e, x, less_at t (c ++ e) n h)

-- what is deeper than n + 1 is deeper than n
pub deeper_less : (v : PointValue) (n : ℕ) → IsDeeper v (suc n) → IsDeeper v n
deeper_less v n h = less_at v.term_of v.choice n h

mutual
  depth_at : (t : TermD) (c : List Atom) (n : ℕ) → DeeperAt t c n → n < depth t
  depth_at (var i) c n h = absurd h
  depth_at (tag name) c n h = absurd h
  depth_at (tup ts) c zero h = omega arith
  depth_at (tup ts) c (suc n) h = omega (arith, depth_of_part_at ts c n h)
  depth_at (coll cs) c zero h = omega arith
  depth_at (coll cs) c (suc n) h = omega (arith, depth_of_member_at cs c n h)

  depth_of_part_at : (ts : TermsD) (c : List Atom) (n : ℕ) → SomePartDeeperAt ts c n → n < depth_of_parts ts
  depth_of_part_at no_terms c n h = absurd h
  depth_of_part_at (term t ts) c n (inl h) = omega (arith, depth_at t c n h)
  depth_of_part_at (term t ts) c n (inr h) = omega (arith, depth_of_part_at ts c n h)

  depth_of_member_at : (ks : CompsD) (c : List Atom) (n : ℕ) → SomeMemberDeeperAt ks c n → n < depth_of_items ks
  depth_of_member_at no_comps c n h = absurd h
  depth_of_member_at (more k ks) c n (inl h) = omega (arith, depth_of_one_at k c n h)
  depth_of_member_at (more k ks) c n (inr h) = omega (arith, depth_of_member_at ks c n h)

  depth_of_one_at : (k : CompD) (c : List Atom) (n : ℕ) → OneDeeperAt k c n → n < depth_of_comp k
  depth_of_one_at (comp m g t) c n (e, x, h) = depth_at t (c ++ e) n h

-- a value is less deep than its term is written
pub deeper_depth : (v : PointValue) (n : ℕ) → IsDeeper v n → n < depth v.term_of
deeper_depth v n h = depth_at v.term_of v.choice n h
