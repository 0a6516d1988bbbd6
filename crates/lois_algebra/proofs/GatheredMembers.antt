-- The members of the members of a set.
use Rattle.std.proofs.Common.{◌≡◌, ℕ, ◌+◌, ◌<◌, ◌≤◌, max, ◌^◌, Bool, ◌&&◌, ◌⊎◌, inl, inr, ◌↔◌, List, ◌++◌, length, length-append, get_or, map, take, drop, refl, sym, ap, subst, ◌∙◌, arith}
use Rattle.std.specs.Bool.{IsTrue}
use Rattle.std.proofs.lemmas.List.{append_assoc, take-append-drop, length-take-le}
use Rattle.lois_base.specs.Atom.{Atom, whole}
use Rattle.lois_base.specs.Data.{TermD, var, tag, tup, coll, CompD, comp, CompsD, no_comps, more, comps_of, depth_of_items}
use Rattle.lois_base.specs.Fits.{ConstraintFits, CompFits, Fits, ItemsFit}
use Rattle.lois_base.specs.Tree.{tree, comp_of}
use Rattle.lois_base.specs.Truth.{holds}
use Rattle.lois_base.specs.Validity.{AdmitsConstraint, AdmitsComp, AdmitsItems, CompHasBoundedWidths, ItemsHaveBoundedWidths}
use Rattle.lois_base.specs.Values.{PointValue, point, IsExtension, MemberAt, SameAt, IsIn}
use Rattle.lois_base.specs.declared.guards.Lit.{Lit}
use Rattle.lois_base.specs.declared.values.Comp.{Comp}
use Rattle.lois_base.proofs.Members.{same_in, same_refl}
use Rattle.lois_base.proofs.Truths.{holds_longer}
use Rattle.lois_base.proofs.Connectives.{both_true}
use Rattle.lois_relate.proofs.Parts.{comp_has}
use Rattle.lois_terms.specs.Collections.{IsColl}
use Rattle.lois_base.proofs.Validity.{fits_longer}
use Rattle.lois_algebra.specs.Gathered.{IsAmong, IsCompMember, IsAmongExtended, IsInMember, IsInSome, IsPut, Gathers, GathersItems}
use Rattle.lois_algebra.specs.Sets.{IsUnionOfMembers, ItemsAreSets, IsSetOfSets}
use Rattle.lois_algebra.proofs.Among.{among_in}

-- ---- the binders of both
module _ (n m : ℕ) (g : List (List Lit)) (guard_fits : ConstraintFits (n + m) g) (k : ℕ) (q h : List (List Lit)) (t : TermD) (met : (d : List Atom) → holds d h ≡ (holds d g && holds d q)) where
  outer_holds : (c e x : List Atom) → length c ≡ n → length e ≡ m → holds ((c ++ e) ++ x) g ≡ holds (c ++ e) g
  outer_holds c e x a b =
      let l : length (c ++ e) ≡ n + m = omega (arith, length-append c e) in
      holds_longer (c ++ e) x g (subst (λ j. ConstraintFits j g) (sym l) guard_fits)

  joined_back : (c : List Atom) → length c ≡ n → (w : PointValue) → ((e : List Atom) × IsExtension c m g e × IsCompMember (comp k q t) (c ++ e) w) → IsCompMember (comp (m + k) h t) c w
  joined_back c a w (e, y, (x, z, s)) =
      let regroup : (c ++ e) ++ x ≡ c ++ (e ++ x) = append_assoc c e x in
      let both : IsTrue (holds ((c ++ e) ++ x) h) = met ((c ++ e) ++ x) ∙ (both_true (holds ((c ++ e) ++ x) g) (holds ((c ++ e) ++ x) q)).1 (outer_holds c e x a y.count ∙ y.guard, z.guard) in
      (e ++ x, record { count = omega (arith, length-append e x, y.count, z.count); guard = subst (λ d. IsTrue (holds d h)) regroup both }, subst (λ d. SameAt t d w.term_of w.choice) regroup s)

  joined_parts : (c e x : List Atom) → length c ≡ n → (w : PointValue) → length e ≡ m → length x ≡ k → IsTrue (holds (c ++ (e ++ x)) h) → SameAt t (c ++ (e ++ x)) w.term_of w.choice → (e : List Atom) × IsExtension c m g e × IsCompMember (comp k q t) (c ++ e) w
  joined_parts c e x a w l j y s =
      let regroup : (c ++ e) ++ x ≡ c ++ (e ++ x) = append_assoc c e x in
      let here : IsTrue (holds ((c ++ e) ++ x) h) = subst (λ d. IsTrue (holds d h)) (sym regroup) y in
      let both = (both_true (holds ((c ++ e) ++ x) g) (holds ((c ++ e) ++ x) q)).0 (sym (met ((c ++ e) ++ x)) ∙ here) in
      (e, record { count = l; guard = sym (outer_holds c e x a l) ∙ both.0 }, (x, record { count = j; guard = both.1 }, subst (λ d. SameAt t d w.term_of w.choice) (sym regroup) s))

  joined_there : (c : List Atom) → length c ≡ n → (w : PointValue) → IsCompMember (comp (m + k) h t) c w → (e : List Atom) × IsExtension c m g e × IsCompMember (comp k q t) (c ++ e) w
  joined_there c a w (e, y, s) =
      let whole_is : take m e ++ drop m e ≡ e = take_and_drop e in
      let l : length (take m e) ≡ m = take_length e (omega (arith, y.count)) in
      let j : length (drop m e) ≡ k = omega (arith, length-append (take m e) (drop m e), ap length whole_is, y.count, l) in
      joined_parts c (take m e) (drop m e) a w l j (subst (λ z. IsTrue (holds (c ++ z) h)) (sym whole_is) y.guard) (subst (λ z. SameAt t (c ++ z) w.term_of w.choice) (sym whole_is) s)
    where
      take_and_drop : (e : List Atom) → take m e ++ drop m e ≡ e
      take_and_drop e = take-append-drop m e

      take_length : (e : List Atom) → m ≤ length e → length (take m e) ≡ m
      take_length e l = length-take-le m e l

-- the guard of both fits the binders of both
pub joined_fits : (n m k : ℕ) (g q h : List (List Lit)) (t : TermD) → ConstraintFits (n + m) g → CompFits (n + m) (comp k q t) → ((j : ℕ) → ConstraintFits j g → ConstraintFits j q → ConstraintFits j h) → CompFits n (comp (m + k) h t)
joined_fits n m k g q h t guard fits met =
    let e : (n + m) + k ≡ n + (m + k) = omega arith in
    let longer : ConstraintFits ((n + m) + k) g = fits_longer (n + m) k g guard in (
      subst (λ j. j < 2 ^ 64) e fits.0,
      subst (λ j. ConstraintFits j h) e (met ((n + m) + k) longer fits.1),
      subst (λ j. Fits j t) e fits.2,
    )

-- ---- from one inner comprehension to the next
-- `after` has the members of `before` and those of the inner comprehensions before the rest
pub record ItemsSoFar (n m : ℕ) (g : List (List Lit)) (rest whole before after : CompsD) : Type 0 where
  pub members : (c : List Atom) → length c ≡ n → (w : PointValue) → (IsAmong after c w ⊎ IsAmongExtended m g rest c w) ↔ (IsAmong before c w ⊎ IsAmongExtended m g whole c w)
  pub levels : ItemsFit n before → ItemsFit n after
  pub operators : (o : Bool) → AdmitsConstraint o g → AdmitsItems o whole → AdmitsItems o before → AdmitsItems o after
  pub widths : ItemsHaveBoundedWidths whole → ItemsHaveBoundedWidths before → ItemsHaveBoundedWidths after
  pub depth : max (depth_of_items after) (depth_of_items rest) ≤ max (depth_of_items before) (depth_of_items whole)

module _ (n m : ℕ) (g : List (List Lit)) where
  within_split : (rest rest' : CompsD) (q : CompD) → rest ≡ more q rest' → (c : List Atom) (w : PointValue) → IsAmongExtended m g rest c w ↔ (((e : List Atom) × IsExtension c m g e × IsCompMember q (c ++ e) w) ⊎ IsAmongExtended m g rest' c w)
  within_split rest rest' q e c w = subst (λ z. IsAmongExtended m g z c w ↔ (((x : List Atom) × IsExtension c m g x × IsCompMember q (c ++ x) w) ⊎ IsAmongExtended m g rest' c w)) (sym e) (
    λ h. elim h.2 [ inl p ↦ inl (h.0, h.1, p) | inr p ↦ inr (h.0, h.1, p) ],
    λ h. elim h [ inl p ↦ (p.0, p.1, inl p.2) | inr p ↦ (p.0, p.1, inr p.2) ],
  )

  pub items_more : (rest rest' whole before after after' : CompsD) (k : ℕ) (q h : List (List Lit)) (t : TermD) → rest ≡ more (comp k q t) rest' → ItemsSoFar n m g rest whole before after → ConstraintFits (n + m) g → ((d : List Atom) → holds d h ≡ (holds d g && holds d q)) → CompFits n (comp (m + k) h t) → ((o : Bool) → AdmitsConstraint o g → AdmitsItems o whole → AdmitsComp o (comp (m + k) h t)) → (ItemsHaveBoundedWidths whole → CompHasBoundedWidths (comp (m + k) h t)) → IsPut (comp (m + k) h t) after after' → ItemsSoFar n m g rest' whole before after'
  items_more rest rest' whole before after after' k q h t e so_far guard_fits met fits admits widths put = record {
    members = λ c a w. (there c a w, λ x. back c a w ((so_far.members c a w).1 x));
    levels = λ x. put.levels n (so_far.levels x) fits;
    operators = λ o x y z. put.operators o (so_far.operators o x y z) (admits o x y);
    widths = λ x y. put.widths (so_far.widths x y) (widths x);
    depth = omega (arith, subst (λ z. max (depth_of_items after) (depth_of_items z) ≤ max (depth_of_items before) (depth_of_items whole)) e so_far.depth, put.depth);
  }
    where
      there : (c : List Atom) → length c ≡ n → (w : PointValue) → IsAmong after' c w ⊎ IsAmongExtended m g rest' c w → IsAmong before c w ⊎ IsAmongExtended m g whole c w
      there c a w (inl x) = elim ((put.members c w).0 x) [
        | inl p ↦ (so_far.members c a w).0 (inl p)
        | inr p ↦ (so_far.members c a w).0 (inr ((within_split rest rest' (comp k q t) e c w).1 (inl (joined_there n m g guard_fits k q h t met c a w p))))
      ]
      there c a w (inr x) = (so_far.members c a w).0 (inr ((within_split rest rest' (comp k q t) e c w).1 (inr x)))

      back : (c : List Atom) → length c ≡ n → (w : PointValue) → IsAmong after c w ⊎ IsAmongExtended m g rest c w → IsAmong after' c w ⊎ IsAmongExtended m g rest' c w
      back c a w (inl x) = inl ((put.members c w).1 (inl x))
      back c a w (inr x) = elim ((within_split rest rest' (comp k q t) e c w).0 x) [
        | inl p ↦ inl ((put.members c w).1 (inr (joined_back n m g guard_fits k q h t met c a w p)))
        | inr p ↦ inr p
      ]

  no_more_within : (rest : CompsD) → rest ≡ no_comps → (c : List Atom) (w : PointValue) → IsAmongExtended m g rest c w → ⊥
  no_more_within rest e c w h = subst (λ z. IsAmong z (c ++ h.0) w) e h.2

  pub items_end : (rest whole before after : CompsD) → rest ≡ no_comps → ItemsSoFar n m g rest whole before after → GathersItems n m g whole before after
  items_end rest whole before after e so_far = record {
    members = λ c a w. (
      λ h. (so_far.members c a w).0 (inl h),
      λ h. elim ((so_far.members c a w).1 h) [ inl p ↦ p | inr p ↦ absurd (no_more_within rest e c w p) ],
    );
    levels = so_far.levels;
    operators = so_far.operators;
    widths = so_far.widths;
    depth = omega (arith, so_far.depth);
  }

pub gathers_of_items : (n m : ℕ) (g : List (List Lit)) (t : TermD) (qs before after : CompsD) → t ≡ coll qs → GathersItems n m g qs before after → Gathers n (comp m g t) before after
gathers_of_items n m g t qs before after e items = subst (λ z. Gathers n (comp m g z) before after) (sym e) (record {
  members = items.members;
  levels = items.levels;
  operators = λ o h i. items.operators o h.0 h.1 i;
  widths = items.widths;
  depth = omega (arith, items.depth);
})

-- ---- from one member to the next
pub record GatheredSoFar (n : ℕ) (rest whole after : CompsD) : Type 0 where
  pub members : (c : List Atom) → length c ≡ n → (w : PointValue) → (IsAmong after c w ⊎ IsInSome rest c w) ↔ IsInSome whole c w
  pub levels : ItemsFit n after
  pub operators : (o : Bool) → AdmitsItems o whole → AdmitsItems o after
  pub widths : ItemsHaveBoundedWidths whole → ItemsHaveBoundedWidths after
  pub depth : max (depth_of_items after) (depth_of_items rest) ≤ depth_of_items whole

module _ (n : ℕ) where
  pub gathered_begin : (whole after : CompsD) → after ≡ no_comps → GatheredSoFar n whole whole after
  gathered_begin whole after e = subst (GatheredSoFar n whole whole) (sym e) (record {
    members = λ c a w. (λ h. elim h [ inl p ↦ absurd p | inr p ↦ p ], λ h. inr h);
    levels = tt;
    operators = λ o h. tt;
    widths = λ h. tt;
    depth = omega arith;
  })

  pub gathered_more : (rest rest' whole after after' : CompsD) (k : CompD) → rest ≡ more k rest' → GatheredSoFar n rest whole after → ((o : Bool) → AdmitsItems o whole → AdmitsComp o k) → (ItemsHaveBoundedWidths whole → CompHasBoundedWidths k) → Gathers n k after after' → GatheredSoFar n rest' whole after'
  gathered_more rest rest' whole after after' k e so_far admits widths gathers = record {
    members = λ c a w. (there c a w, λ x. back c a w ((so_far.members c a w).1 x));
    levels = gathers.levels so_far.levels;
    operators = λ o x. gathers.operators o (admits o x) (so_far.operators o x);
    widths = λ x. gathers.widths (widths x) (so_far.widths x);
    depth = omega (arith, subst (λ z. max (depth_of_items after) (depth_of_items z) ≤ depth_of_items whole) e so_far.depth, gathers.depth);
  }
    where
      in_rest : (c : List Atom) (w : PointValue) → (IsInMember k c w ⊎ IsInSome rest' c w) → IsInSome rest c w
      in_rest c w x = subst (λ z. IsInSome z c w) (sym e) x

      there : (c : List Atom) → length c ≡ n → (w : PointValue) → IsAmong after' c w ⊎ IsInSome rest' c w → IsInSome whole c w
      there c a w (inl x) = elim ((gathers.members c a w).0 x) [
        | inl p ↦ (so_far.members c a w).0 (inl p)
        | inr p ↦ (so_far.members c a w).0 (inr (in_rest c w (inl p)))
      ]
      there c a w (inr x) = (so_far.members c a w).0 (inr (in_rest c w (inr x)))

      back : (c : List Atom) → length c ≡ n → (w : PointValue) → IsAmong after c w ⊎ IsInSome rest c w → IsAmong after' c w ⊎ IsInSome rest' c w
      back c a w (inl x) = inl ((gathers.members c a w).1 (inl x))
      back c a w (inr x) = of_rest c a w (subst (λ z. IsInSome z c w) e x)
        where
          of_rest : (c : List Atom) → length c ≡ n → (w : PointValue) → IsInMember k c w ⊎ IsInSome rest' c w → IsAmong after' c w ⊎ IsInSome rest' c w
          of_rest c a w (inl p) = inl ((gathers.members c a w).1 (inr p))
          of_rest c a w (inr p) = inr p

-- ---- in some member
in_member : (t : TermD) (m : ℕ) (g : List (List Lit)) (c : List Atom) (w : PointValue) → IsInMember (comp m g t) c w ↔ ((e : List Atom) × IsExtension c m g e × IsIn w (point t (c ++ e)))
in_member (coll qs) m g c w =
    (λ h. (h.0, h.1, (among_in qs (c ++ h.0) w).0 h.2), λ h. (h.0, h.1, (among_in qs (c ++ h.0) w).1 h.2))
in_member (var i) m g c w = (λ h. absurd h, λ h. absurd (h.2).1)
in_member (tag i) m g c w = (λ h. absurd h, λ h. absurd (h.2).1)
in_member (tup ts) m g c w = (λ h. absurd h, λ h. absurd (h.2).1)

-- the member as written, and what is in it
in_some_there : (ks : CompsD) (c : List Atom) (w : PointValue) → IsInSome ks c w → (u : TermD) × (x : List Atom) × MemberAt u x ks c × IsIn w (point u x)
in_some_there no_comps c w h = absurd h
in_some_there (more (comp m g t) ks) c w (inl h) =
    let p = (in_member t m g c w).0 h in (t, c ++ p.0, inl (p.0, p.1, refl, refl), p.2)
in_some_there (more k ks) c w (inr h) =
    let p = in_some_there ks c w h in (p.0, p.1, inr p.2, p.3)

in_some_back : (ks : CompsD) (c : List Atom) (w : PointValue) (u : TermD) (x : List Atom) → MemberAt u x ks c → IsIn w (point u x) → IsInSome ks c w
in_some_back no_comps c w u x m h = absurd m
in_some_back (more (comp m g t) ks) c w u x (inl (e, y, p, q)) h =
    inl ((in_member t m g c w).1 (e, y, subst (λ z. IsIn w (point t z)) q (subst (λ v. IsIn w (point v x)) p h)))
in_some_back (more k ks) c w u x (inr m) h = inr (in_some_back ks c w u x m h)

in_some : (ks : CompsD) (c : List Atom) (w : PointValue) → IsInSome ks c w ↔ ((v : PointValue) × IsIn v (point (coll ks) c) × IsIn w v)
in_some ks c w = (
  λ h. let p = in_some_there ks c w h in
      (point p.0 p.1, (point p.0 p.1, p.2, same_refl (point p.0 p.1)), p.3),
  λ h. let u = h.1.0 in
      in_some_back ks c w u.term_of u.choice h.1.1 (same_in w h.0 u h.1.2 h.2),
)

pub gathered_end : (n : ℕ) (rest whole after : CompsD) → rest ≡ no_comps → GatheredSoFar n rest whole after → IsUnionOfMembers n (coll whole) (coll after)
gathered_end n rest whole after e so_far c a w =
    let own = in_some whole c w in
    let left = among_in after c w in
    let all = so_far.members c a w in (
      λ h. own.0 (all.0 (inl (left.1 h))),
      λ h. left.0 (elim (all.1 (own.1 h)) [ inl p ↦ p | inr p ↦ absurd (subst (λ z. IsInSome z c w) e p) ]),
    )

-- ---- sets of sets
abbrev IsSetItem : CompD → Type 0
IsSetItem (comp m g t) = IsColl t

pub set_items : (t : TermD) (ks : CompsD) → t ≡ coll ks → IsSetOfSets t → ItemsAreSets ks
set_items t ks e (qs, d, h) =
    let same : coll ks ≡ coll qs = sym e ∙ d in
    let own : ks ≡ qs = cc in
    subst ItemsAreSets (sym own) h

pub item_is_set : (ks : List Comp) (vs : List CompD) (i : ℕ) (k : Comp) → map comp_of ks ≡ vs → i < length ks → k ≡ get_or ks i k → ItemsAreSets (comps_of vs) → IsColl (tree k.item)
item_is_set ks vs i k m l e h = comp_has IsSetItem ItemsAreSets split ks vs i k m l e h
  where
    split : (q : CompD) (qs : CompsD) → ItemsAreSets (more q qs) → IsSetItem q × ItemsAreSets qs
    split (comp m g t) qs p = p
