-- The members of one set that are, or aren't, in another.
use Rattle.std.proofs.Common.{◌≡◌, ℕ, ◌+◌, ◌≤◌, max, Bool, true, false, not, ◌&&◌, ◌⊎◌, inl, inr, ◌↔◌, List, ◌++◌, length, length-append, sym, subst, ◌∙◌, arith}
use Rattle.std.specs.Bool.{IsTrue}
use Rattle.lois_base.specs.Atom.{Atom}
use Rattle.lois_base.specs.Data.{TermD, coll, comp, CompsD, no_comps, more, depth_of_items}
use Rattle.lois_base.specs.Fits.{CompFits, ItemsFit}
use Rattle.lois_base.specs.FormulaData.{FormulaD}
use Rattle.lois_base.specs.Truth.{holds}
use Rattle.lois_base.specs.Validity.{AdmitsTerm, AdmitsComp, AdmitsItems, CompHasBoundedWidths, ItemsHaveBoundedWidths}
use Rattle.lois_base.specs.Values.{PointValue, point, IsExtension, SameAt, IsSame, IsIn}
use Rattle.lois_base.specs.declared.guards.Lit.{Lit}
use Rattle.lois_base.proofs.Members.{same_sym, in_same}
use Rattle.lois_elim.specs.Bound.{AgreesWith}
use Rattle.lois_base.proofs.Connectives.{both_true, not_true}
use Rattle.lois_relate.specs.Relations.{HoldsWhereItemIn}
use Rattle.lois_algebra.specs.Gathered.{IsAmong, IsCompMember, IsPut}
use Rattle.lois_algebra.specs.Selected.{HasTruthValue, IsSelection, IsSelectedGuard, IsSelectedPart}
use Rattle.lois_algebra.proofs.Among.{among_in}

-- ---- the guard
wanted_there : (b : Bool) (P Q : Type 0) → P ↔ Q → HasTruthValue b P → HasTruthValue b Q
wanted_there true P Q h p = h.0 p
wanted_there false P Q h p = λ q. p (h.1 q)

wanted_back : (b : Bool) (P Q : Type 0) → P ↔ Q → HasTruthValue b Q → HasTruthValue b P
wanted_back true P Q h p = h.1 p
wanted_back false P Q h p = λ q. p (h.0 q)

pub narrowed_found : (wanted : Bool) (g q r : List (List Lit)) → wanted ≡ true → ((d : List Atom) → holds d r ≡ (holds d g && holds d q)) → IsSelectedPart wanted g q r
narrowed_found wanted g q r e met = subst (λ b. IsSelectedPart b g q r) (sym e) (λ d.
    let both = both_true (holds d g) (holds d q) in
    (λ p. both.0 (sym (met d) ∙ p), λ p. met d ∙ both.1 p))

pub narrowed_others : (wanted : Bool) (g q r : List (List Lit)) → wanted ≡ false → ((d : List Atom) → holds d r ≡ (holds d g && not (holds d q))) → IsSelectedPart wanted g q r
narrowed_others wanted g q r e met = subst (λ b. IsSelectedPart b g q r) (sym e) (λ d.
    let both = both_true (holds d g) (not (holds d q)) in
    let absent = not_true (holds d q) in (
      λ p. let x = both.0 (sym (met d) ∙ p) in (x.0, absent.0 x.1),
      λ p. met d ∙ both.1 (p.0, absent.1 p.1),
    ))

module _ (n m : ℕ) (ks : CompsD) (item : TermD) (f : FormulaD) (q : List (List Lit)) (member : HoldsWhereItemIn n m item ks f) (agrees : AgreesWith (n + m) f q) where
  pub found_is : (c e : List Atom) → length c ≡ n → length e ≡ m → IsTrue (holds (c ++ e) q) ↔ IsIn (point item (c ++ e)) (point (coll ks) c)
  found_is c e k l =
      let longer : length (c ++ e) ≡ n + m = omega (arith, length-append c e) in
      let one = agrees (c ++ e) longer in
      let two = member c e k l in (
        λ h. let i = two.0 (one.0 h) in (point i.0 i.1, i.2, i.3),
        λ h. one.1 (two.1 ((h.0).term_of, (h.0).choice, h.1, h.2)),
      )

  pub selects : (wanted : Bool) (g h : List (List Lit)) → IsSelectedPart wanted g q h → IsSelectedGuard n m wanted g item (coll ks) h
  selects wanted g h narrowed c e k l =
      let here = narrowed (c ++ e) in
      let found = found_is c e k l in (
        λ p. let x = here.0 p in (x.0, wanted_there wanted (IsTrue (holds (c ++ e) q)) (IsIn (point item (c ++ e)) (point (coll ks) c)) found x.1),
        λ p. here.1 (p.0, wanted_back wanted (IsTrue (holds (c ++ e) q)) (IsIn (point item (c ++ e)) (point (coll ks) c)) found p.1),
      )

-- ---- the members
wanted_same : (b : Bool) (u w v : PointValue) → IsSame u w → HasTruthValue b (IsIn u v) → HasTruthValue b (IsIn w v)
wanted_same true u w v s h = in_same u w v s h
wanted_same false u w v s h = λ p. h (in_same w u v (same_sym u w s) p)

module _ (n : ℕ) (wanted : Bool) (t : TermD) where
  one_selected : (m : ℕ) (g h : List (List Lit)) (item : TermD) → IsSelectedGuard n m wanted g item t h → (c : List Atom) → length c ≡ n → (w : PointValue) → IsCompMember (comp m h item) c w ↔ (IsCompMember (comp m g item) c w × HasTruthValue wanted (IsIn w (point t c)))
  one_selected m g h item selects c k w = (
    λ x. let p = (selects c x.0 k (x.1).count).0 (x.1).guard in
        ((x.0, record { count = (x.1).count; guard = p.0 }, x.2), wanted_same wanted (point item (c ++ x.0)) w (point t c) x.2 p.1),
    λ x. let e = x.0.0 in
        let y : IsExtension c m g e = x.0.1 in
        let s : SameAt item (c ++ e) w.term_of w.choice = x.0.2 in
        (e, record { count = y.count; guard = (selects c e k y.count).1 (y.guard, wanted_same wanted w (point item (c ++ e)) (point t c) (same_sym (point item (c ++ e)) w s) x.1) }, s),
  )

  -- `kept` has what is wanted of the members before the rest
  pub record SelectedSoFar (rest whole kept : CompsD) : Type 0 where
    pub members : (c : List Atom) → length c ≡ n → (w : PointValue) → (IsAmong kept c w ⊎ (IsAmong rest c w × HasTruthValue wanted (IsIn w (point t c)))) ↔ (IsAmong whole c w × HasTruthValue wanted (IsIn w (point t c)))
    pub levels : ItemsFit n kept
    pub operators : (o : Bool) → AdmitsItems o whole → AdmitsTerm o t → AdmitsItems o kept
    pub widths : ItemsHaveBoundedWidths whole → ItemsHaveBoundedWidths kept
    pub depth : max (depth_of_items kept) (depth_of_items rest) ≤ depth_of_items whole

  pub selected_begin : (whole kept : CompsD) → kept ≡ no_comps → SelectedSoFar whole whole kept
  selected_begin whole kept e = subst (SelectedSoFar whole whole) (sym e) (record {
    members = λ c k w. (λ h. elim h [ inl p ↦ absurd p | inr p ↦ p ], λ h. inr h);
    levels = tt;
    operators = λ o h g. tt;
    widths = λ h. tt;
    depth = omega arith;
  })

  pub selected_more : (rest rest' whole kept kept' : CompsD) (m : ℕ) (g h : List (List Lit)) (item : TermD) → rest ≡ more (comp m g item) rest' → SelectedSoFar rest whole kept → IsSelectedGuard n m wanted g item t h → CompFits n (comp m h item) → ((o : Bool) → AdmitsItems o whole → AdmitsTerm o t → AdmitsComp o (comp m h item)) → (ItemsHaveBoundedWidths whole → CompHasBoundedWidths (comp m h item)) → IsPut (comp m h item) kept kept' → SelectedSoFar rest' whole kept'
  selected_more rest rest' whole kept kept' m g h item e so_far selects fits admits widths put = record {
    members = λ c k w. (there c k w, λ x. back c k w ((so_far.members c k w).1 x));
    levels = put.levels n so_far.levels fits;
    operators = λ o x y. put.operators o (so_far.operators o x y) (admits o x y);
    widths = λ x. put.widths (so_far.widths x) (widths x);
    depth = omega (arith, subst (λ z. max (depth_of_items kept) (depth_of_items z) ≤ depth_of_items whole) e so_far.depth, put.depth);
  }
    where
      one : (c : List Atom) → length c ≡ n → (w : PointValue) → IsCompMember (comp m h item) c w ↔ (IsCompMember (comp m g item) c w × HasTruthValue wanted (IsIn w (point t c)))
      one c k w = one_selected m g h item selects c k w

      in_rest : (c : List Atom) (w : PointValue) → (IsCompMember (comp m g item) c w ⊎ IsAmong rest' c w) → IsAmong rest c w
      in_rest c w x = subst (λ z. IsAmong z c w) (sym e) x

      of_rest : (c : List Atom) (w : PointValue) → IsAmong rest c w → IsCompMember (comp m g item) c w ⊎ IsAmong rest' c w
      of_rest c w x = subst (λ z. IsAmong z c w) e x

      there : (c : List Atom) → length c ≡ n → (w : PointValue) → IsAmong kept' c w ⊎ (IsAmong rest' c w × HasTruthValue wanted (IsIn w (point t c))) → IsAmong whole c w × HasTruthValue wanted (IsIn w (point t c))
      there c k w (inl x) = elim ((put.members c w).0 x) [
        | inl p ↦ (so_far.members c k w).0 (inl p)
        | inr p ↦ let q = (one c k w).0 p in (so_far.members c k w).0 (inr (in_rest c w (inl q.0), q.1))
      ]
      there c k w (inr x) = (so_far.members c k w).0 (inr (in_rest c w (inr x.0), x.1))

      back : (c : List Atom) → length c ≡ n → (w : PointValue) → IsAmong kept c w ⊎ (IsAmong rest c w × HasTruthValue wanted (IsIn w (point t c))) → IsAmong kept' c w ⊎ (IsAmong rest' c w × HasTruthValue wanted (IsIn w (point t c)))
      back c k w (inl x) = inl ((put.members c w).1 (inl x))
      back c k w (inr x) = elim (of_rest c w x.0) [
        | inl p ↦ inl ((put.members c w).1 (inr ((one c k w).1 (p, x.1))))
        | inr p ↦ inr (p, x.1)
      ]

  pub selected_end : (rest whole kept : CompsD) → rest ≡ no_comps → SelectedSoFar rest whole kept → IsSelection n wanted (coll whole) t (coll kept)
  selected_end rest whole kept e so_far c k w =
      let own = among_in whole c w in
      let left = among_in kept c w in
      let all = so_far.members c k w in (
        λ h. let x = all.0 (inl (left.1 h)) in (own.0 x.0, x.1),
        λ h. left.0 (elim (all.1 (own.1 h.0, h.1)) [ inl p ↦ p | inr p ↦ absurd (subst (λ z. IsAmong z c w) e p.0) ]),
      )

-- the item may be put in the place of one that is the same
pub put_item : (m : ℕ) (h : List (List Lit)) (item item' : TermD) (before after : CompsD) → item' ≡ item → IsPut (comp m h item') before after → IsPut (comp m h item) before after
put_item m h item item' before after e put = subst (λ z. IsPut (comp m h z) before after) e put

pub selection_of : (n : ℕ) (wanted : Bool) (s t r : TermD) (ks ls : CompsD) → s ≡ coll ks → t ≡ coll ls → IsSelection n wanted (coll ks) (coll ls) r → IsSelection n wanted s t r
selection_of n wanted s t r ks ls e f h = subst (λ z. IsSelection n wanted z t r) (sym e) (subst (λ z. IsSelection n wanted (coll ks) z r) (sym f) h)
