-- Sets that get members, where what is written in a set already isn't put there again.
use Rattle.std.proofs.Common.{◌≡◌, ℕ, ◌+◌, ◌<◌, ◌≤◌, ◌^◌, ◌⊎◌, inl, inr, ◌↔◌, Bool, List, [], ◌∷◌, ◌++◌, length, take, length-append, refl, sym, ap, ◌∙◌, subst, append-nil, append_assoc, arith}
use Rattle.std.specs.List.{Contains}
use Rattle.std.proofs.lemmas.List.{take-append-le}
use Rattle.std.proofs.lemmas.List.Elements.{All-cons, All-nil, Contains-append_left, Contains-push, Contains-push_cases}
use Rattle.lois_base.specs.Atom.{Atom}
use Rattle.lois_base.specs.Data.{TermD, coll, CompD, CompsD, comps_of}
use Rattle.lois_base.specs.Fits.{LitFits, CubeFits, CompFits, Fits, ItemsFit}
use Rattle.lois_base.specs.Validity.{AdmitsLit, AdmitsCube, AdmitsTerm, AdmitsItems, HasBoundedWidths, ItemsHaveBoundedWidths}
use Rattle.lois_base.specs.Values.{PointValue, point, IsIn, IsSame, IsIncluded}
use Rattle.lois_base.specs.declared.guards.Lit.{Lit}
use Rattle.lois_base.proofs.Members.{same_sym, same_in, same_included, included_trans, member_in, same_sets}
use Rattle.lois_base.proofs.Lists.{items_fit_append}
use Rattle.lois_base.proofs.Appended.{in_append}
use Rattle.lois_algebra.proofs.Among.{admits_items-append, widths-append}
use Rattle.lois_meaning.specs.Runs.{IsSetWith}
use Rattle.lois_simplify.specs.Simplification.{IsSimplification, set_of}
use Rattle.lois_simplify.proofs.Kept.{alike_kept}
use Rattle.lois_simplify.proofs.Members.{contains_none}
use Rattle.lois_context.specs.Entered.{items_listed, comps_listed}
use Rattle.lois_context.specs.ItemCounts.{comps_in, count_of_items}
use Rattle.lois_context.proofs.Carried.{count_of}
use Rattle.lois_context.proofs.Entered.{listed_of}
use Rattle.lois_context.proofs.Joined.{of_listed}
use Rattle.lois_eval.specs.Made.{bare}
use Rattle.lois_context.specs.Put.{IsPutOnce}
use Rattle.lois_interp.specs.Members.{IsWithItem, AreBehind}
use Rattle.lois_interp.specs.Slots.{IsKeptTerm}
use Rattle.lois_base.proofs.Choices.{no_atoms}

-- those of the first ones are members
pub append_included : (xs ys : List CompD) (c : List Atom) → IsIncluded (point (coll (comps_of xs)) c) (point (coll (comps_of (xs ++ ys))) c)
append_included xs ys c u m = (in_append xs ys c u).1 (inl (member_in u (point (coll (comps_of xs)) c) m))

-- a comprehension without binders that holds everywhere has its item alone
pub in_one : (item : TermD) (c : List Atom) (w : PointValue) → IsIn w (point (coll (comps_of (bare item ∷ []))) c) ↔ IsSame w (point item c)
in_one item c w = (
  λ (u, m, s). elim m [
    | inl (e, ext, term_is, choice_is) ↦
        let here : u.choice ≡ c = choice_is ∙ (ap (λ z. c ++ z) (no_atoms e ext.count) ∙ append-nil c) in
        subst (λ z. IsSame w (point z c)) term_is (subst (λ z. IsSame w (point u.term_of z)) here s)
    | inr p ↦ absurd p
  ],
  λ s. (point item c, inl ([], record { count = refl; guard = refl }, refl, sym (append-nil c)), s),
)

-- sets with the same members are the same
pub same_by_members : (xs ys : List CompD) (c d : List Atom) → ((w : PointValue) → IsIn w (point (coll (comps_of xs)) c) ↔ IsIn w (point (coll (comps_of ys)) d)) → IsSame (point (coll (comps_of xs)) c) (point (coll (comps_of ys)) d)
same_by_members xs ys c d h =
    same_sets (point (coll (comps_of xs)) c) (point (coll (comps_of ys)) d) (comps_of xs) (comps_of ys) refl refl
    (λ u m. (h u).0 (member_in u (point (coll (comps_of xs)) c) m))
    (λ u m. (h u).1 (member_in u (point (coll (comps_of ys)) d) m))

-- what is put in the place of the last ones
pub append_same : (xs ys zs : List CompD) (c : List Atom) → IsSame (point (coll (comps_of ys)) c) (point (coll (comps_of zs)) c) → IsSame (point (coll (comps_of (xs ++ ys))) c) (point (coll (comps_of (xs ++ zs))) c)
append_same xs ys zs c same = same_by_members (xs ++ ys) (xs ++ zs) c c (λ w. (
  λ h. elim ((in_append xs ys c w).0 h) [
    | inl p ↦ (in_append xs zs c w).1 (inl p)
    | inr p ↦ (in_append xs zs c w).1 (inr (same_in w (point (coll (comps_of ys)) c) (point (coll (comps_of zs)) c) same p))
  ],
  λ h. elim ((in_append xs zs c w).0 h) [
    | inl p ↦ (in_append xs ys c w).1 (inl p)
    | inr p ↦ (in_append xs ys c w).1 (inr (same_in w (point (coll (comps_of zs)) c) (point (coll (comps_of ys)) c) (same_sym (point (coll (comps_of ys)) c) (point (coll (comps_of zs)) c) same) p))
  ],
))

-- ---- the list has the same comprehensions as with the new one at its end
put_all : (ks : List CompD) (k : CompD) (ls : List CompD) → IsPutOnce ks k ls → (j : CompD) → Contains (ks ++ k ∷ []) j → Contains ls j
put_all ks k ls (inl is) j h = subst (λ z. Contains z j) (sym is) h
put_all ks k ls (inr (there, is)) j h = subst (λ z. Contains z j) (sym is) (elim (Contains-push_cases ks k j h) [ inl i ↦ i | inr e ↦ subst (Contains ks) e there ])

put_only : (ks : List CompD) (k : CompD) (ls : List CompD) → IsPutOnce ks k ls → (j : CompD) → Contains ls j → Contains (ks ++ k ∷ []) j
put_only ks k ls (inl is) j h = subst (λ z. Contains z j) is h
put_only ks k ls (inr (there, is)) j h = Contains-append_left ks (k ∷ []) j (subst (λ z. Contains z j) is h)

put_length : (ks : List CompD) (k : CompD) (ls : List CompD) → IsPutOnce ks k ls → length ks ≤ length ls
put_length ks k ls (inl is) = omega (arith, ap length is, length-append ks (k ∷ []))
put_length ks k ls (inr (there, is)) = omega (arith, ap length is)

put_first : (ks : List CompD) (k : CompD) (ls : List CompD) (from : ℕ) → IsPutOnce ks k ls → from ≤ length ks → take from ls ≡ take from ks
put_first ks k ls from (inl is) le = ap (take from) is ∙ take-append-le from ks (k ∷ []) le
put_first ks k ls from (inr (there, is)) le = ap (take from) is

-- ---- the set with an item
item_fits : (n : ℕ) (item : TermD) → n < 2 ^ 64 → Fits n item → CompFits n (bare item)
item_fits n item room h =
    let same : n ≡ n + 0 = omega arith in
    (omega arith, All-cons (CubeFits (n + 0)) [] [] (All-nil (LitFits (n + 0))) (All-nil (CubeFits (n + 0))), subst (λ z. Fits z item) same h)

module _ (t item r : TermD) (ks : CompsD) (set : t ≡ coll ks) (more : IsWithItem t item r) where
  once : IsPutOnce (items_listed ks) (bare item) more.0
  once = subst (λ z. IsPutOnce z (bare item) more.0) (ap comps_listed set) more.1

  kept : (u : List (List Lit)) (n : ℕ) → IsSimplification u n (set_of (items_listed ks ++ bare item ∷ [])) r
  kept u n = subst (IsSimplification u n (set_of (items_listed ks ++ bare item ∷ []))) (sym more.2) (alike_kept u n (items_listed ks ++ bare item ∷ []) more.0 (put_all (items_listed ks) (bare item) more.0 once) (put_only (items_listed ks) (bare item) more.0 once))

  was : t ≡ set_of (items_listed ks)
  was = set ∙ ap coll (sym (of_listed ks))

  pub with_fits : (n : ℕ) → n < 2 ^ 64 → Fits n t → Fits n item → Fits n r
  with_fits n room before new = (kept [] n).levels (items_fit_append n (items_listed ks) (bare item ∷ []) (subst (Fits n) was before) (item_fits n item room new, tt))

  pub with_admits : (o : Bool) → AdmitsTerm o t → AdmitsTerm o item → AdmitsTerm o r
  with_admits o before new = (kept [] 0).operators o (admits_items-append o (items_listed ks) (bare item ∷ []) (subst (AdmitsTerm o) was before) ((All-cons (AdmitsCube o) [] [] (All-nil (AdmitsLit o)) (All-nil (AdmitsCube o)), new), tt))

  pub with_widths : HasBoundedWidths t → HasBoundedWidths item → HasBoundedWidths r
  with_widths before new = (kept [] 0).widths (widths-append (items_listed ks) (bare item ∷ []) (subst HasBoundedWidths was before) (new, tt))

  pub with_count : comps_in t ≤ comps_in r
  with_count =
      let before : comps_in t ≡ length (items_listed ks) = ap comps_in was ∙ count_of (items_listed ks) in
      let after : comps_in r ≡ length more.0 = ap comps_in more.2 ∙ count_of more.0 in
      omega (arith, before, after, put_length (items_listed ks) (bare item) more.0 once)

  pub item_kept : (from : ℕ) → from ≤ comps_in t → IsKeptTerm from t r
  item_kept from le =
      let count : comps_in t ≡ length (items_listed ks) = ap comps_in was ∙ count_of (items_listed ks) in
      subst (λ z. IsKeptTerm from z r) (sym set)
      (comps_of more.0, more.2, ap (take from) (listed_of more.0) ∙ put_first (items_listed ks) (bare item) more.0 from once (omega (arith, le, count)))

  -- the value is as if the item stood at the end
  same_value : (c : List Atom) → IsSame (point (set_of (items_listed ks ++ bare item ∷ [])) c) (point r c)
  same_value c = (kept ([] ∷ []) (length c)).value c refl refl

  pub item_included : (c : List Atom) → IsIncluded (point t c) (point r c)
  item_included c = subst (λ z. IsIncluded (point z c) (point r c)) (sym was)
      (included_trans (point (set_of (items_listed ks)) c) (point (set_of (items_listed ks ++ bare item ∷ [])) c) (point r c) (append_included (items_listed ks) (bare item ∷ []) c)
      (same_included (point (set_of (items_listed ks ++ bare item ∷ [])) c) (point r c) (same_value c)))

  -- the set has its old members and the item
  pub set_with : (c : List Atom) → IsSetWith (point r c) (point t c) (point item c)
  set_with c = subst (λ z. IsSetWith (point r c) (point z c) (point item c)) (sym was) (subst (λ z. IsSetWith (point z c) (point (set_of (items_listed ks)) c) (point item c)) (sym more.2) (tt, (tt, λ w. (came_from w, goes_in w))))
    where
      same : IsSame (point (set_of (items_listed ks ++ bare item ∷ [])) c) (point (set_of more.0) c)
      same = subst (λ z. IsSame (point (set_of (items_listed ks ++ bare item ∷ [])) c) (point z c)) more.2 (same_value c)

      came_from : (w : PointValue) → IsIn w (point (set_of more.0) c) → IsIn w (point (set_of (items_listed ks)) c) ⊎ IsSame w (point item c)
      came_from w h = elim ((in_append (items_listed ks) (bare item ∷ []) c w).0
          (same_in w (point (set_of more.0) c) (point (set_of (items_listed ks ++ bare item ∷ [])) c) (same_sym (point (set_of (items_listed ks ++ bare item ∷ [])) c) (point (set_of more.0) c) same) h)) [
            | inl p ↦ inl p
            | inr p ↦ inr ((in_one item c w).0 p)
          ]

      goes_in : (w : PointValue) → IsIn w (point (set_of (items_listed ks)) c) ⊎ IsSame w (point item c) → IsIn w (point (set_of more.0) c)
      goes_in w h = same_in w (point (set_of (items_listed ks ++ bare item ∷ [])) c) (point (set_of more.0) c) same ((in_append (items_listed ks) (bare item ∷ []) c w).1 (elim h [
        | inl p ↦ inl p
        | inr p ↦ inr ((in_one item c w).1 p)
      ]))

-- before any is put there
pub none_behind : (first : List CompD) → AreBehind first [] first
none_behind first = ([], sym (append-nil first), λ k h. h, λ k h. absurd (contains_none k h))

pub one_behind : (first added all after : List CompD) (k : CompD) → AreBehind first added all → IsPutOnce all k after → AreBehind first (added ++ k ∷ []) after
one_behind first added all after k (more, e, only, whole) (inl is) = (
  more ++ k ∷ [],
  is ∙ (ap (λ z. z ++ k ∷ []) e ∙ append_assoc first more (k ∷ [])),
  λ j h. elim (Contains-push_cases more k j h) [ inl a ↦ Contains-append_left added (k ∷ []) j (only j a) | inr q ↦ subst (Contains (added ++ k ∷ [])) q (Contains-push added k) ],
  λ j h. subst (λ z. Contains z j) (append_assoc first more (k ∷ []))
      (elim (Contains-push_cases added k j h) [ inl a ↦ Contains-append_left (first ++ more) (k ∷ []) j (whole j a) | inr q ↦ subst (Contains ((first ++ more) ++ k ∷ [])) q (Contains-push (first ++ more) k) ]),
)
one_behind first added all after k (more, e, only, whole) (inr (there, is)) = (
  more,
  is ∙ e,
  λ j h. Contains-append_left added (k ∷ []) j (only j h),
  λ j h. elim (Contains-push_cases added k j h) [ inl a ↦ whole j a | inr q ↦ subst (Contains (first ++ more)) q (subst (λ z. Contains z k) e there) ],
)
