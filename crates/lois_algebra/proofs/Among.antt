-- The members of lists of comprehensions, as these lists are put together.
use Rattle.std.proofs.Common.{◌≡◌, max, Bool, ◌⊎◌, inl, inr, ◌↔◌, List, [], ◌∷◌, ◌++◌, sym, subst, arith}
use Rattle.lois_base.specs.Atom.{Atom}
use Rattle.lois_base.specs.Data.{coll, CompD, CompsD, comps_of}
use Rattle.lois_base.specs.ListDepth.{depth_of_comps}
use Rattle.lois_base.specs.Validity.{AdmitsItems, ItemsHaveBoundedWidths}
use Rattle.lois_base.specs.Values.{PointValue, point, IsIn}
use Rattle.lois_base.proofs.Lists.{items_fit_append}
use Rattle.lois_terms.proofs.Heights.{depth_append}
use Rattle.lois_relate.proofs.Sets.{some_is_member}
use Rattle.lois_algebra.specs.Gathered.{IsAmong, IsCompMember, IsPut}

pub among_in : (ks : CompsD) (c : List Atom) (w : PointValue) → IsAmong ks c w ↔ IsIn w (point (coll ks) c)
among_in ks c w = some_is_member w.term_of w.choice ks c

-- ---- one list behind the other
module _ (c : List Atom) (w : PointValue) where
  pub among_append : (ks ls : List CompD) → IsAmong (comps_of (ks ++ ls)) c w ↔ (IsAmong (comps_of ks) c w ⊎ IsAmong (comps_of ls) c w)
  among_append [] ls = (λ h. inr h, λ h. elim h [ inl p ↦ absurd p | inr p ↦ p ])
  among_append (k ∷ ks) ls =
      let rest = among_append ks ls in (
        λ h. elim h [ inl p ↦ inl (inl p) | inr p ↦ elim (rest.0 p) [ inl q ↦ inl (inr q) | inr q ↦ inr q ] ],
        λ h. elim h [ inl p ↦ elim p [ inl q ↦ inl q | inr q ↦ inr (rest.1 (inl q)) ] | inr p ↦ inr (rest.1 (inr p)) ],
      )

  among_one : (k : CompD) → IsAmong (comps_of (k ∷ [])) c w ↔ IsCompMember k c w
  among_one k = (λ h. elim h [ inl p ↦ p | inr p ↦ absurd p ], λ h. inl h)

  pub among_pushed : (ks : List CompD) (k : CompD) → IsAmong (comps_of (ks ++ k ∷ [])) c w ↔ (IsAmong (comps_of ks) c w ⊎ IsCompMember k c w)
  among_pushed ks k =
      let both = among_append ks (k ∷ []) in
      let one = among_one k in (
        λ h. elim (both.0 h) [ inl p ↦ inl p | inr p ↦ inr (one.0 p) ],
        λ h. both.1 (elim h [ inl p ↦ inl p | inr p ↦ inr (one.1 p) ]),
      )

pub admits_items-append : (o : Bool) (ks ls : List CompD) → AdmitsItems o (comps_of ks) → AdmitsItems o (comps_of ls) → AdmitsItems o (comps_of (ks ++ ls))
admits_items-append o [] ls h g = g
admits_items-append o (k ∷ ks) ls h g = (h.0, admits_items-append o ks ls h.1 g)

pub widths-append : (ks ls : List CompD) → ItemsHaveBoundedWidths (comps_of ks) → ItemsHaveBoundedWidths (comps_of ls) → ItemsHaveBoundedWidths (comps_of (ks ++ ls))
widths-append [] ls h g = g
widths-append (k ∷ ks) ls h g = (h.0, widths-append ks ls h.1 g)

-- ---- one more comprehension
pub is_put_pushed : (k : CompD) (ks after : List CompD) → after ≡ ks ++ k ∷ [] → IsPut k (comps_of ks) (comps_of after)
is_put_pushed k ks after e = subst (λ z. IsPut k (comps_of ks) (comps_of z)) (sym e) (record {
  members = λ c w. among_pushed c w ks k;
  levels = λ n h g. items_fit_append n ks (k ∷ []) h (g, tt);
  operators = λ o h g. admits_items-append o ks (k ∷ []) h (g, tt);
  widths = λ h g. widths-append ks (k ∷ []) h (g, tt);
  depth = omega (arith, depth_append ks (k ∷ []));
})
