-- To be the same value is an equivalence.
use Rattle.std.proofs.Common.{List, ◌++◌, refl, sym, ◌∙◌, subst}
use mathlib.Core.Logic.{inl, inr}
use Rattle.lois_base.specs.Atom.{Atom}
use Rattle.lois_base.specs.Data.{TermD, var, tag, tup, coll, TermsD, no_terms, term, CompD, comp, CompsD, no_comps, more}
use Rattle.lois_base.specs.Truth.{atom_at}
use Rattle.lois_base.specs.Values.{MakesAt, MemberAt, SameAt, SamePartsAt, AllInAt, EachInAt, SomeIsAt, OneIsAt, InAt}
use Rattle.lois_base.proofs.Order.{equal_refl, equal_sym, equal_trans}

mutual
  pub same_at_refl : (t : TermD) (c : List Atom) → SameAt t c t c
  same_at_refl (var i) c = equal_refl (atom_at c i)
  same_at_refl (tag n) c = refl
  same_at_refl (tup ts) c = same_parts_refl ts c
  same_at_refl (coll cs) c = (all_in_refl cs c cs (λ w x m. m), some_is_refl cs c)

  same_parts_refl : (ts : TermsD) (c : List Atom) → SamePartsAt ts c ts c
  same_parts_refl no_terms c = tt
  same_parts_refl (term t ts) c = (same_at_refl t c, same_parts_refl ts c)

  all_in_refl : (ks : CompsD) (c : List Atom) (cs : CompsD) → ((w : TermD) (x : List Atom) → MemberAt w x ks c → MemberAt w x cs c) → AllInAt ks c cs c
  all_in_refl no_comps c cs within = tt
  all_in_refl (more k ks) c cs within =
      (each_in_refl k c cs (λ w x m. within w x (inl m)), all_in_refl ks c cs (λ w x m. within w x (inr m)))

  each_in_refl : (k : CompD) (c : List Atom) (cs : CompsD) → ((w : TermD) (x : List Atom) → MakesAt w x k c → MemberAt w x cs c) → EachInAt k c cs c
  each_in_refl (comp m g t) c cs within =
      λ e h. (t, c ++ e, within t (c ++ e) (e, h, refl, refl), same_at_refl t (c ++ e))

  some_is_refl : (ks : CompsD) (c : List Atom) (w : TermD) (x : List Atom) → MemberAt w x ks c → SomeIsAt ks c w x
  some_is_refl no_comps c w x m = m
  some_is_refl (more k ks) c w x (inl m) = inl (one_is_refl k c w x m)
  some_is_refl (more k ks) c w x (inr m) = inr (some_is_refl ks c w x m)

  one_is_refl : (k : CompD) (c : List Atom) (w : TermD) (x : List Atom) → MakesAt w x k c → OneIsAt k c w x
  one_is_refl (comp m g t) c w x h =
      (h.0, h.1, subst (λ y. SameAt t (c ++ h.0) y x) (sym h.2) (subst (λ y. SameAt t (c ++ h.0) t y) (sym h.3) (same_at_refl t (c ++ h.0))))

-- the members of a set, in place of its comprehensions
pub all_in_is : (ks : CompsD) (c : List Atom) (ss : CompsD) (d : List Atom) → AllInAt ks c ss d → (w : TermD) (x : List Atom) → MemberAt w x ks c → InAt w x ss d
all_in_is no_comps c ss d h w x m = absurd m
all_in_is (more (comp m g t) ks) c ss d h w x (inl n) =
    let i : InAt t (c ++ n.0) ss d = h.0 n.0 n.1 in
    subst (λ y. InAt w y ss d) (sym n.3) (subst (λ v. InAt v (c ++ n.0) ss d) (sym n.2) i)
all_in_is (more k ks) c ss d h w x (inr n) = all_in_is ks c ss d h.1 w x n

pub is_all_in : (ks : CompsD) (c : List Atom) (ss : CompsD) (d : List Atom) → ((w : TermD) (x : List Atom) → MemberAt w x ks c → InAt w x ss d) → AllInAt ks c ss d
is_all_in no_comps c ss d h = tt
is_all_in (more (comp m g t) ks) c ss d h =
    (λ e n. h t (c ++ e) (inl (e, n, refl, refl)), is_all_in ks c ss d (λ w x n. h w x (inr n)))

-- some member is the same as w at x
pub some_is_is : (ks : CompsD) (c : List Atom) (w : TermD) (x : List Atom) → SomeIsAt ks c w x → (v : TermD) × (y : List Atom) × MemberAt v y ks c × SameAt v y w x
some_is_is no_comps c w x h = absurd h
some_is_is (more (comp m g t) ks) c w x (inl h) = (t, c ++ h.0, inl (h.0, h.1, refl, refl), h.2)
some_is_is (more k ks) c w x (inr h) =
    let i = some_is_is ks c w x h in (i.0, i.1, inr i.2, i.3)

pub is_some_is : (ks : CompsD) (c : List Atom) (w : TermD) (x : List Atom) (v : TermD) (y : List Atom) → MemberAt v y ks c → SameAt v y w x → SomeIsAt ks c w x
is_some_is no_comps c w x v y m h = m
is_some_is (more (comp m g t) ks) c w x v y (inl n) h =
    inl (n.0, n.1, subst (λ z. SameAt t z w x) n.3 (subst (λ u. SameAt u y w x) n.2 h))
is_some_is (more k ks) c w x v y (inr n) h = inr (is_some_is ks c w x v y n h)

mutual
  pub same_at_sym : (t : TermD) (c : List Atom) (s : TermD) (d : List Atom) → SameAt t c s d → SameAt s d t c
  same_at_sym (var i) c (var j) d h = equal_sym (atom_at c i) (atom_at d j) h
  same_at_sym (tag n) c (tag k) d h = sym h
  same_at_sym (tup ts) c (tup ss) d h = same_parts_sym ts c ss d h
  same_at_sym (coll cs) c (coll ss) d h =
      (is_all_in ss d cs c (λ w x m. in_sym cs c w x (h.1 w x m)), λ w x m. some_sym cs c ss d h.0 w x m)
  same_at_sym _ c _ d h = absurd h

  same_parts_sym : (ts : TermsD) (c : List Atom) (ss : TermsD) (d : List Atom) → SamePartsAt ts c ss d → SamePartsAt ss d ts c
  same_parts_sym no_terms c no_terms d h = tt
  same_parts_sym (term t ts) c (term s ss) d h = (same_at_sym t c s d h.0, same_parts_sym ts c ss d h.1)
  same_parts_sym _ c _ d h = absurd h

  in_sym : (ks : CompsD) (c : List Atom) (w : TermD) (x : List Atom) → SomeIsAt ks c w x → InAt w x ks c
  in_sym no_comps c w x h = absurd h
  in_sym (more k ks) c w x (inl h) = one_sym k c w x h (more k ks) (λ v y m. inl m)
  in_sym (more k ks) c w x (inr h) =
      let i = in_sym ks c w x h in (i.0, i.1, inr i.2, i.3)

  one_sym : (k : CompD) (c : List Atom) (w : TermD) (x : List Atom) → OneIsAt k c w x → (cs : CompsD) → ((v : TermD) (y : List Atom) → MakesAt v y k c → MemberAt v y cs c) → InAt w x cs c
  one_sym (comp m g t) c w x h cs within =
      (t, c ++ h.0, within t (c ++ h.0) (h.0, h.1, refl, refl), same_at_sym t (c ++ h.0) w x h.2)

  some_sym : (ks : CompsD) (c : List Atom) (ss : CompsD) (d : List Atom) → AllInAt ks c ss d → (w : TermD) (x : List Atom) → MemberAt w x ks c → SomeIsAt ss d w x
  some_sym no_comps c ss d h w x m = absurd m
  some_sym (more k ks) c ss d h w x (inl m) = each_sym k c ss d h.0 w x m
  some_sym (more k ks) c ss d h w x (inr m) = some_sym ks c ss d h.1 w x m

  each_sym : (k : CompD) (c : List Atom) (ss : CompsD) (d : List Atom) → EachInAt k c ss d → (w : TermD) (x : List Atom) → MakesAt w x k c → SomeIsAt ss d w x
  each_sym (comp m g t) c ss d h w x n =
      let i : InAt t (c ++ n.0) ss d = h n.0 n.1 in
      let s : SameAt i.0 i.1 t (c ++ n.0) = same_at_sym t (c ++ n.0) i.0 i.1 i.3 in
      is_some_is ss d w x i.0 i.1 i.2 (subst (λ y. SameAt i.0 i.1 w y) (sym n.3) (subst (λ v. SameAt i.0 i.1 v (c ++ n.0)) (sym n.2) s))

-- a member of ss is the same as some member of what ss is included in
mutual
  pub same_at_trans : (t : TermD) (c : List Atom) (s : TermD) (d : List Atom) (r : TermD) (f : List Atom) → SameAt t c s d → SameAt s d r f → SameAt t c r f
  same_at_trans (var i) c (var j) d (var k) f h g = equal_trans (atom_at c i) (atom_at d j) (atom_at f k) h g
  same_at_trans (tag n) c (tag k) d (tag l) f h g = h ∙ g
  same_at_trans (tup ts) c (tup ss) d (tup rs) f h g = same_parts_trans ts c ss d rs f h g
  same_at_trans (coll cs) c (coll ss) d (coll rs) f h g = (
    all_trans cs c ss d rs f h.0 g.0,
    λ w x m.
        let i = some_is_is ss d w x (g.1 w x m) in
        some_same cs c i.0 i.1 w x (h.1 i.0 i.1 i.2) i.3,
  )
  same_at_trans _ c _ d _ f h g = absurd (assumption (h, g))

  same_parts_trans : (ts : TermsD) (c : List Atom) (ss : TermsD) (d : List Atom) (rs : TermsD) (f : List Atom) → SamePartsAt ts c ss d → SamePartsAt ss d rs f → SamePartsAt ts c rs f
  same_parts_trans no_terms c no_terms d no_terms f h g = tt
  same_parts_trans (term t ts) c (term s ss) d (term r rs) f h g =
      (same_at_trans t c s d r f h.0 g.0, same_parts_trans ts c ss d rs f h.1 g.1)
  same_parts_trans _ c _ d _ f h g = absurd (assumption (h, g))

  all_trans : (ks : CompsD) (c : List Atom) (ss : CompsD) (d : List Atom) (rs : CompsD) (f : List Atom) → AllInAt ks c ss d → AllInAt ss d rs f → AllInAt ks c rs f
  all_trans no_comps c ss d rs f h g = tt
  all_trans (more k ks) c ss d rs f h g = (each_trans k c ss d rs f h.0 g, all_trans ks c ss d rs f h.1 g)

  each_trans : (k : CompD) (c : List Atom) (ss : CompsD) (d : List Atom) (rs : CompsD) (f : List Atom) → EachInAt k c ss d → AllInAt ss d rs f → EachInAt k c rs f
  each_trans (comp m g t) c ss d rs f h a = λ e n.
      let i : InAt t (c ++ e) ss d = h e n in
      let j : InAt i.0 i.1 rs f = all_in_is ss d rs f a i.0 i.1 i.2 in
      (j.0, j.1, j.2, same_at_trans t (c ++ e) i.0 i.1 j.0 j.1 i.3 j.3)

  some_same : (ks : CompsD) (c : List Atom) (v : TermD) (y : List Atom) (w : TermD) (x : List Atom) → SomeIsAt ks c v y → SameAt v y w x → SomeIsAt ks c w x
  some_same no_comps c v y w x h g = h
  some_same (more k ks) c v y w x (inl h) g = inl (one_same k c v y w x h g)
  some_same (more k ks) c v y w x (inr h) g = inr (some_same ks c v y w x h g)

  one_same : (k : CompD) (c : List Atom) (v : TermD) (y : List Atom) (w : TermD) (x : List Atom) → OneIsAt k c v y → SameAt v y w x → OneIsAt k c w x
  one_same (comp m g t) c v y w x h s = (h.0, h.1, same_at_trans t (c ++ h.0) v y w x h.2 s)
