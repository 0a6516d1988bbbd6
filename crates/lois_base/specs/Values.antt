-- Values: a term with a choice of atoms.
use Rattle.std.specs.Prelude.{◌≡◌, ℕ, zero, suc, List, ◌++◌, length, IsTrue, ◌⊎◌}
use Rattle.lois_base.specs.Atom.{Atom, equal}
use Rattle.lois_base.specs.Data.{TermD, var, tag, tup, coll, TermsD, no_terms, term, CompD, comp, CompsD, no_comps, more}
use Rattle.lois_base.specs.Fits.{Fits}
use Rattle.lois_base.specs.Truth.{atom_at, holds}
use Rattle.lois_base.specs.declared.guards.Lit.{Lit}

-- A value is a term with a choice of atoms, whose length the term fits (`IsProper`). The definitions below have an answer
-- at other choices too, which nobody rests on: a level that a choice lacks reads as zero.
pub record PointValue : Type 0 where
  pub term_of : TermD
  pub choice : List Atom

-- the value of a term at a choice
abbrev pub point : TermD → List Atom → PointValue
point t c = record { term_of = t; choice = c }

-- the term fits the choice
abbrev pub IsProper : PointValue → Type 0
IsProper v = Fits (length v.choice) v.term_of

-- m more atoms at which a guard holds
pub record IsExtension (c : List Atom) (m : ℕ) (g : List (List Lit)) (e : List Atom) : Type 0 where
  pub count : length e ≡ m
  pub guard : IsTrue (holds (c ++ e) g)

-- the item of a comprehension at c, with its choice made longer, is the term w at the choice x
abbrev pub MakesAt : TermD → List Atom → CompD → List Atom → Type 0
MakesAt w x (comp m g t) c = (e : List Atom) × IsExtension c m g e × (w ≡ t) × (x ≡ c ++ e)

-- some comprehension of a set at c makes the term w at the choice x
abbrev pub MemberAt : TermD → List Atom → CompsD → List Atom → Type 0
MemberAt w x no_comps c = ⊥
MemberAt w x (more k ks) c = MakesAt w x k c ⊎ MemberAt w x ks c

-- The same value: equal atoms, equal tags, tuples whose parts are the same one by one, and sets of which each member of
-- one is the same as some member of the other. It recurses on the first term alone.
abbrev mutual
  pub SameAt : TermD → List Atom → TermD → List Atom → Type 0
  SameAt (var i) c (var j) d = IsTrue (equal (atom_at c i) (atom_at d j))
  SameAt (tag n) c (tag k) d = n ≡ k
  SameAt (tup ts) c (tup ss) d = SamePartsAt ts c ss d
  SameAt (coll cs) c (coll ss) d =
      AllInAt cs c ss d × ((w : TermD) (x : List Atom) → MemberAt w x ss d → SomeIsAt cs c w x)
  SameAt _ c _ d = ⊥

  pub SamePartsAt : TermsD → List Atom → TermsD → List Atom → Type 0
  SamePartsAt no_terms c no_terms d = Unit {0}
  SamePartsAt (term t ts) c (term s ss) d = SameAt t c s d × SamePartsAt ts c ss d
  SamePartsAt _ c _ d = ⊥

  -- each member of the first is the same as some member of the second
  pub AllInAt : CompsD → List Atom → CompsD → List Atom → Type 0
  AllInAt no_comps c ss d = Unit {0}
  AllInAt (more k ks) c ss d = EachInAt k c ss d × AllInAt ks c ss d

  pub EachInAt : CompD → List Atom → CompsD → List Atom → Type 0
  EachInAt (comp m g t) c ss d =
      (e : List Atom) → IsExtension c m g e → (w : TermD) × (x : List Atom) × MemberAt w x ss d × SameAt t (c ++ e) w x

  -- some member is the same as w at x
  pub SomeIsAt : CompsD → List Atom → TermD → List Atom → Type 0
  SomeIsAt no_comps c w x = ⊥
  SomeIsAt (more k ks) c w x = OneIsAt k c w x ⊎ SomeIsAt ks c w x

  pub OneIsAt : CompD → List Atom → TermD → List Atom → Type 0
  OneIsAt (comp m g t) c w x = (e : List Atom) × IsExtension c m g e × SameAt t (c ++ e) w x

-- some member of a set is the same as t at c
abbrev pub InAt : TermD → List Atom → CompsD → List Atom → Type 0
InAt t c ss d = (w : TermD) × (x : List Atom) × MemberAt w x ss d × SameAt t c w x

-- deeper than a number: each tuple and each set adds one to the depth of its deepest part or member
abbrev mutual
  pub DeeperAt : TermD → List Atom → ℕ → Type 0
  DeeperAt (var i) c n = ⊥
  DeeperAt (tag t) c n = ⊥
  DeeperAt (tup ts) c zero = Unit {0}
  DeeperAt (tup ts) c (suc n) = SomePartDeeperAt ts c n
  DeeperAt (coll cs) c zero = Unit {0}
  DeeperAt (coll cs) c (suc n) = SomeMemberDeeperAt cs c n

  pub SomePartDeeperAt : TermsD → List Atom → ℕ → Type 0
  SomePartDeeperAt no_terms c n = ⊥
  SomePartDeeperAt (term t ts) c n = DeeperAt t c n ⊎ SomePartDeeperAt ts c n

  pub SomeMemberDeeperAt : CompsD → List Atom → ℕ → Type 0
  SomeMemberDeeperAt no_comps c n = ⊥
  SomeMemberDeeperAt (more k ks) c n = OneDeeperAt k c n ⊎ SomeMemberDeeperAt ks c n

  pub OneDeeperAt : CompD → List Atom → ℕ → Type 0
  OneDeeperAt (comp m g t) c n = (e : List Atom) × IsExtension c m g e × DeeperAt t (c ++ e) n

-- only sets have members
abbrev pub IsMemberOf : TermD → List Atom → TermD → List Atom → Type 0
IsMemberOf t c (coll ks) d = MemberAt t c ks d
IsMemberOf t c _ d = ⊥

-- u is, as written, a member of the set v: an item of v, at the choice of v with the atoms of the item's binders
abbrev pub IsMember : PointValue → PointValue → Type 0
IsMember u v = IsMemberOf u.term_of u.choice v.term_of v.choice

-- v and w are the same value
abbrev pub IsSame : PointValue → PointValue → Type 0
IsSame v w = SameAt v.term_of v.choice w.term_of w.choice

-- v is the same as some member of the set w
abbrev pub IsIn : PointValue → PointValue → Type 0
IsIn v w = (u : PointValue) × IsMember u w × IsSame v u

-- each member of v is in w
abbrev pub IsIncluded : PointValue → PointValue → Type 0
IsIncluded v w = (u : PointValue) → IsMember u v → IsIn u w

-- v is deeper than n
abbrev pub IsDeeper : PointValue → ℕ → Type 0
IsDeeper v n = DeeperAt v.term_of v.choice n
