-- Unions, and the set of all atoms.
use Rattle.std.proofs.Common.{◌≡◌, ℕ, suc, max, Bool, ◌⊎◌, inl, inr, ◌↔◌, List, [], ◌∷◌, ◌++◌, length, refl, sym, ap, subst, ◌∙◌, arith}
use Rattle.std.specs.Bool.{IsTrue}
use Rattle.lois_base.specs.Atom.{Atom, equal}
use Rattle.lois_base.specs.Data.{TermD, var, coll, CompD, comp, no_comps, more, comps_of, depth}
use Rattle.lois_base.specs.ListDepth.{depth_of_comps}
use Rattle.lois_base.specs.Fits.{Fits}
use Rattle.lois_base.specs.Truth.{atom_at}
use Rattle.lois_base.specs.Validity.{AdmitsTerm, HasBoundedWidths}
use Rattle.lois_base.specs.Values.{PointValue, point, SameAt, IsIn}
use Rattle.lois_base.proofs.Members.{same_as_atom}
use Rattle.lois_base.proofs.Order.{equal_refl}
use Rattle.lois_base.proofs.Lists.{items_fit_append}
use Rattle.lois_base.proofs.Choices.{atom_at_end}
use Rattle.lois_terms.proofs.Heights.{depth_append}
use Rattle.lois_algebra.specs.Gathered.{IsAmong}
use Rattle.lois_algebra.specs.Sets.{IsUnion, HasAllAtoms, IsAtom}
use Rattle.lois_algebra.proofs.Among.{among_in, among_append, admits_items-append, widths-append}

module _ (s t r : TermD) (ks ls all : List CompD) (left : s ≡ coll (comps_of ks)) (right : t ≡ coll (comps_of ls)) (joined : all ≡ ks ++ ls) (is : r ≡ coll (comps_of all)) where
  whole_is : r ≡ coll (comps_of (ks ++ ls))
  whole_is = is ∙ ap (λ z. coll (comps_of z)) joined

  pub is_union : IsUnion s t r
  is_union c w =
      let in_all = among_in (comps_of (ks ++ ls)) c w in
      let in_left = among_in (comps_of ks) c w in
      let in_right = among_in (comps_of ls) c w in
      let both = among_append c w ks ls in
      subst (λ x. IsIn w (point r c) ↔ (IsIn w (point x c) ⊎ IsIn w (point t c))) (sym left) (subst (λ y. IsIn w (point r c) ↔ (IsIn w (point (coll (comps_of ks)) c) ⊎ IsIn w (point y c))) (sym right) (subst (λ z. IsIn w (point z c) ↔ (IsIn w (point (coll (comps_of ks)) c) ⊎ IsIn w (point (coll (comps_of ls)) c))) (sym whole_is) (
        λ h. elim (both.0 (in_all.1 h)) [ inl p ↦ inl (in_left.0 p) | inr p ↦ inr (in_right.0 p) ],
        λ h. in_all.0 (both.1 (elim h [ inl p ↦ inl (in_left.1 p) | inr p ↦ inr (in_right.1 p) ])),
      )))

  pub union_fits : (n : ℕ) → Fits n s → Fits n t → Fits n r
  union_fits n h g =
      subst (Fits n) (sym whole_is) (items_fit_append n ks ls (subst (Fits n) left h) (subst (Fits n) right g))

  pub union_admits : (o : Bool) → AdmitsTerm o s → AdmitsTerm o t → AdmitsTerm o r
  union_admits o h g =
      subst (AdmitsTerm o) (sym whole_is) (admits_items-append o ks ls (subst (AdmitsTerm o) left h) (subst (AdmitsTerm o) right g))

  pub union_widths : HasBoundedWidths s → HasBoundedWidths t → HasBoundedWidths r
  union_widths h g =
      subst HasBoundedWidths (sym whole_is) (widths-append ks ls (subst HasBoundedWidths left h) (subst HasBoundedWidths right g))

  pub union_depth : depth r ≡ max (depth s) (depth t)
  union_depth =
      let whole : depth r ≡ suc (depth_of_comps (ks ++ ls)) = ap depth whole_is in
      let first : depth s ≡ suc (depth_of_comps ks) = ap depth left in
      let second : depth t ≡ suc (depth_of_comps ls) = ap depth right in
      omega (arith, whole, first, second, depth_append ks ls)

-- ---- all atoms
abbrev pub atoms_term : ℕ → TermD
atoms_term n = coll (more (comp 1 ([] ∷ []) (var n)) no_comps)

pub has_all_atoms : (n : ℕ) (r : TermD) → r ≡ atoms_term n → HasAllAtoms n r
has_all_atoms n r e = subst (HasAllAtoms n) (sym e) (λ c k w.
    let among = among_in (more (comp 1 ([] ∷ []) (var n)) no_comps) c w in
    (λ h. there c w (among.1 h), λ h. among.0 (back c k w h)))
  where
    there : (c : List Atom) (w : PointValue) → IsAmong (more (comp 1 ([] ∷ []) (var n)) no_comps) c w → IsAtom w
    there c w (inl (x, y, s)) = same_as_atom (point (var n) (c ++ x)) w n refl s
    there c w (inr m) = absurd m

    back : (c : List Atom) → length c ≡ n → (w : PointValue) → IsAtom w → IsAmong (more (comp 1 ([] ∷ []) (var n)) no_comps) c w
    back c k w (i, d) =
        let a = atom_at w.choice i in
        inl (a ∷ [], record { count = refl; guard = refl }, subst (λ z. SameAt (var n) (c ++ a ∷ []) z w.choice) (sym d) (subst (λ z. IsTrue (equal z a)) (sym (atom_at_end c a n k)) (equal_refl a)))
