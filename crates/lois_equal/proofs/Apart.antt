-- Values that are no members of a set.
use Rattle.std.proofs.Common.{◌≡◌, inl, inr, List, ◌++◌, sym, subst}
use Rattle.lois_base.specs.Atom.{Atom}
use Rattle.lois_base.specs.Data.{TermD, coll, CompD, comp, CompsD, no_comps, more}
use Rattle.lois_base.specs.Values.{point, IsIn}
use Rattle.lois_algebra.specs.Gathered.{IsAmong}
use Rattle.lois_algebra.proofs.Among.{among_in}
use Rattle.lois_relate.specs.Apart.{AreNeverSame}

-- at no choice t is in the set
abbrev pub IsApart : TermD → CompsD → Type 0
IsApart t ks = (c : List Atom) → IsAmong ks c (point t c) → ⊥

abbrev pub item_of : CompD → TermD
item_of (comp m g item) = item

module _ (t : TermD) where
  -- where t isn't among the rest, it is among none
  pub apart_more : (rest next : CompsD) (k : CompD) (All : Type 0) → rest ≡ more k next → AreNeverSame (item_of k) t → (IsApart t rest → All) → IsApart t next → All
  apart_more rest next (comp m g item) All e never h others = h (subst (IsApart t) (sym e) both)
    where
      both : IsApart t (more (comp m g item) next)
      both c (inl (x, ext, same)) = never (c ++ x) c same
      both c (inr later) = others c later

  pub apart_end : (rest : CompsD) (All : Type 0) → rest ≡ no_comps → (IsApart t rest → All) → All
  apart_end rest All e h = h (subst (IsApart t) (sym e) (λ c x. x))

  pub apart_in : (ks : CompsD) → IsApart t ks → (c : List Atom) → IsIn (point t c) (point (coll ks) c) → ⊥
  apart_in ks h c i = h c ((among_in ks c (point t c)).1 i)
