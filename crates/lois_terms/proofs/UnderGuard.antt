-- What a set is under a further guard.
use Rattle.std.proofs.Common.{◌≡◌, ℕ, suc, ◌+◌, Bool, true, false, ◌&&◌, List, [], ◌∷◌, ◌++◌, length, map, refl, ap, ◌∙◌, sym, subst, inl, inr}
use Rattle.std.specs.Bool.{IsTrue, IsFalse}
use Rattle.lois_base.specs.Atom.{Atom}
use Rattle.lois_base.specs.Data.{TermD, var, tag, tup, coll, CompD, comp, CompsD, no_comps, more, comps_of, depth, depth_of_items}
use Rattle.lois_base.specs.Fits.{LitFits, ConstraintFits, Fits, ItemsFit}
use Rattle.lois_base.specs.Normal.{both}
use Rattle.lois_base.specs.Truth.{holds}
use Rattle.lois_base.specs.Validity.{AdmitsLit, AdmitsConstraint, AdmitsTerm, AdmitsItems, HasBoundedWidths, ItemsHaveBoundedWidths}
use Rattle.lois_base.specs.Values.{MemberAt, SameAt}
use Rattle.lois_base.specs.declared.guards.Lit.{Lit}
use Rattle.lois_base.proofs.Both.{all_both, holds_both}
use Rattle.lois_base.proofs.Truths.{holds_longer}
use Rattle.lois_base.proofs.Validity.{fits_longer}
use Rattle.lois_base.proofs.Same.{same_at_refl, is_all_in, is_some_is}
use Rattle.lois_terms.specs.Guarded.{KeepsWhere, IsEmptyElsewhere, guarded_comp, guarded_items, guarded}
use Rattle.lois_terms.specs.Collections.{IsColl}

pub guarded_items_of : (c : List (List Lit)) (cs : List CompD) → comps_of (map (guarded_comp c) cs) ≡ guarded_items c (comps_of cs)
guarded_items_of c [] = refl
guarded_items_of c (k ∷ cs) = ap (more (guarded_comp c k)) (guarded_items_of c cs)

module _ (c : List (List Lit)) (d : List Atom) (fits : ConstraintFits (length d) c) where
  guard_at : (e : List Atom) (g : List (List Lit)) → holds (d ++ e) (both c g) ≡ (holds d c && holds (d ++ e) g)
  guard_at e g = holds_both (d ++ e) c g ∙ ap (λ z. z && holds (d ++ e) g) (holds_longer d e c fits)

  guard_kept : IsTrue (holds d c) → (e : List Atom) (g : List (List Lit)) → holds (d ++ e) (both c g) ≡ holds (d ++ e) g
  guard_kept h e g = guard_at e g ∙ ap (λ z. z && holds (d ++ e) g) h

  guard_lost : IsFalse (holds d c) → (e : List Atom) (g : List (List Lit)) → holds (d ++ e) (both c g) ≡ false
  guard_lost h e g = guard_at e g ∙ ap (λ z. z && holds (d ++ e) g) h

  member_kept : IsTrue (holds d c) → (ks : CompsD) (w : TermD) (x : List Atom) → MemberAt w x (guarded_items c ks) d → MemberAt w x ks d
  member_kept h no_comps w x m = m
  member_kept h (more (comp n g t) ks) w x (inl (e, y, p, q)) =
      inl (e, record { count = y.count; guard = subst IsTrue (guard_kept h e g) y.guard }, p, q)
  member_kept h (more k ks) w x (inr m) = inr (member_kept h ks w x m)

  member_stays : IsTrue (holds d c) → (ks : CompsD) (w : TermD) (x : List Atom) → MemberAt w x ks d → MemberAt w x (guarded_items c ks) d
  member_stays h no_comps w x m = m
  member_stays h (more (comp n g t) ks) w x (inl (e, y, p, q)) =
      inl (e, record { count = y.count; guard = subst IsTrue (sym (guard_kept h e g)) y.guard }, p, q)
  member_stays h (more k ks) w x (inr m) = inr (member_stays h ks w x m)

  same_items : IsTrue (holds d c) → (ks : CompsD) → SameAt (coll (guarded_items c ks)) d (coll ks) d
  same_items h ks = (
    is_all_in (guarded_items c ks) d ks d (λ w x m. (w, x, member_kept h ks w x m, same_at_refl w x)),
    λ w x m. is_some_is (guarded_items c ks) d w x w x (member_stays h ks w x m) (same_at_refl w x),
  )

  no_member : IsFalse (holds d c) → (ks : CompsD) (w : TermD) (x : List Atom) → MemberAt w x (guarded_items c ks) d → ⊥
  no_member h no_comps w x m = m
  no_member h (more (comp n g t) ks) w x (inl (e, y, p, q)) =
      let lost : false ≡ true = sym (guard_lost h e g) ∙ y.guard in absurd (cc)
  no_member h (more k ks) w x (inr m) = no_member h ks w x m

  same_where : IsTrue (holds d c) → (t : TermD) → SameAt (guarded c t) d t d
  same_where h (coll ks) = same_items h ks
  same_where h (var i) = same_at_refl (var i) d
  same_where h (tag n) = same_at_refl (tag n) d
  same_where h (tup ts) = same_at_refl (tup ts) d

pub keeps_where : (c : List (List Lit)) (t : TermD) → KeepsWhere c t (guarded c t)
keeps_where c t = λ d fits h. same_where c d fits h t

pub is_empty_elsewhere : (c : List (List Lit)) (t : TermD) → IsColl t → IsEmptyElsewhere c (guarded c t)
is_empty_elsewhere c (coll ks) s = λ d fits h u m. no_member c d fits h ks u.term_of u.choice m
is_empty_elsewhere c _ (ks, e) = absurd (cc)

pub is_set_guarded : (c : List (List Lit)) (t : TermD) → IsColl t → IsColl (guarded c t)
is_set_guarded c (coll ks) s = (guarded_items c ks, refl)
is_set_guarded c _ (ks, e) = absurd (cc)

items_fit : (c : List (List Lit)) (n : ℕ) → ConstraintFits n c → (ks : CompsD) → ItemsFit n ks → ItemsFit n (guarded_items c ks)
items_fit c n h no_comps f = f
items_fit c n h (more (comp m g t) ks) f = (
  (f.0.0, all_both (LitFits (n + m)) c g (fits_longer n m c h) f.0.1, f.0.2),
  items_fit c n h ks f.1,
)

pub fits_guarded : (c : List (List Lit)) (t : TermD) (n : ℕ) → Fits n t → ConstraintFits n c → Fits n (guarded c t)
fits_guarded c (coll ks) n f h = items_fit c n h ks f
fits_guarded c _ n f h = f

items_admit : (c : List (List Lit)) (ordered : Bool) → AdmitsConstraint ordered c → (ks : CompsD) → AdmitsItems ordered ks → AdmitsItems ordered (guarded_items c ks)
items_admit c ordered h no_comps f = f
items_admit c ordered h (more (comp m g t) ks) f =
    ((all_both (AdmitsLit ordered) c g h f.0.0, f.0.1), items_admit c ordered h ks f.1)

pub admits_guarded : (c : List (List Lit)) (t : TermD) (ordered : Bool) → AdmitsTerm ordered t → AdmitsConstraint ordered c → AdmitsTerm ordered (guarded c t)
admits_guarded c (coll ks) ordered f h = items_admit c ordered h ks f
admits_guarded c _ ordered f h = f

items_have_widths : (c : List (List Lit)) (ks : CompsD) → ItemsHaveBoundedWidths ks → ItemsHaveBoundedWidths (guarded_items c ks)
items_have_widths c no_comps f = f
items_have_widths c (more (comp m g t) ks) f = (f.0, items_have_widths c ks f.1)

pub widths_guarded : (c : List (List Lit)) (t : TermD) → HasBoundedWidths t → HasBoundedWidths (guarded c t)
widths_guarded c (coll ks) f = items_have_widths c ks f
widths_guarded c _ f = f

depth_items : (c : List (List Lit)) (ks : CompsD) → depth_of_items (guarded_items c ks) ≡ depth_of_items ks
depth_items c no_comps = refl
depth_items c (more (comp m g t) ks) = rw (depth_items c ks)

pub depth_guarded : (c : List (List Lit)) (t : TermD) → depth (guarded c t) ≡ depth t
depth_guarded c (coll ks) = ap suc (depth_items c ks)
depth_guarded c (var i) = refl
depth_guarded c (tag n) = refl
depth_guarded c (tup ts) = refl
