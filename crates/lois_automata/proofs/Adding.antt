-- Loops that add members to a list of comprehensions.
use Rattle.std.proofs.Common.{◌≡◌, ℕ, Bool, ◌⊎◌, inl, inr, ◌↔◌, List, length, sym, subst}
use Rattle.lois_base.specs.Atom.{Atom}
use Rattle.lois_base.specs.Data.{CompD, CompsD, no_comps, more, coll}
use Rattle.lois_base.specs.Fits.{CompFits, ItemsFit}
use Rattle.lois_base.specs.Validity.{AdmitsComp, AdmitsItems, CompHasBoundedWidths, ItemsHaveBoundedWidths}
use Rattle.lois_base.specs.Values.{PointValue, point, IsIn}
use Rattle.lois_algebra.specs.Gathered.{IsAmong, IsCompMember, IsPut}
use Rattle.lois_algebra.proofs.Among.{among_in}
use Rattle.lois_automata.specs.Adding.{Adds, IsMadeOfOne, IsMadeOfTwo}

-- nothing is added where there is nothing to add
pub adds_nothing : (n : ℕ) (W : List Atom → PointValue → Type 0) (F : Type 0) (A : Bool → Type 0) (U : Type 0) (before : CompsD) → ((c : List Atom) → length c ≡ n → (w : PointValue) → W c w → ⊥) → Adds n W F A U before before
adds_nothing n W F A U before never = record {
  members = λ c l w. (λ h. inl h, λ h. elim h [ inl p ↦ p | inr p ↦ absurd (never c l w p) ]);
  levels = λ f h. h;
  operators = λ o a h. h;
  widths = λ u h. h;
}

-- one comprehension is put into the list
pub added_put : (n : ℕ) (k : CompD) (W : List Atom → PointValue → Type 0) (F : Type 0) (A : Bool → Type 0) (U : Type 0) (before after : CompsD) → IsPut k before after →
    ((c : List Atom) → length c ≡ n → (w : PointValue) → IsCompMember k c w ↔ W c w) → (F → CompFits n k) → ((o : Bool) → A o → AdmitsComp o k) → (U → CompHasBoundedWidths k) → Adds n W F A U before after
added_put n k W F A U before after put same fits admits usual = record {
  members = λ c l w.
      let pushed = put.members c w in
      let one = same c l w in (
        λ h. elim (pushed.0 h) [ inl p ↦ inl p | inr p ↦ inr (one.0 p) ],
        λ h. pushed.1 (elim h [ inl p ↦ inl p | inr p ↦ inr (one.1 p) ]),
      );
  levels = λ f h. put.levels n h (fits f);
  operators = λ o a h. put.operators o h (admits o a);
  widths = λ u h. put.widths h (usual u);
}

-- as a loop goes: what was made has the members that were there before and those that W names, up to the rest
pub record AddsSoFar (n : ℕ) (Rest W : List Atom → PointValue → Type 0) (F : Type 0) (A : Bool → Type 0) (U : Type 0) (before made : CompsD) : Type 0 where
  pub members : (c : List Atom) → length c ≡ n → (w : PointValue) → (IsAmong made c w ⊎ Rest c w) ↔ (IsAmong before c w ⊎ W c w)
  pub levels : F → ItemsFit n before → ItemsFit n made
  pub operators : (o : Bool) → A o → AdmitsItems o before → AdmitsItems o made
  pub widths : U → ItemsHaveBoundedWidths before → ItemsHaveBoundedWidths made

module _ (n : ℕ) (W : List Atom → PointValue → Type 0) (F : Type 0) (A : Bool → Type 0) (U : Type 0) (before : CompsD) where
  pub adds_begin : AddsSoFar n W W F A U before before
  adds_begin = record {
    members = λ c l w. (λ h. h, λ h. h);
    levels = λ f h. h;
    operators = λ o a h. h;
    widths = λ u h. h;
  }

  pub adds_more : (Rest One Next : List Atom → PointValue → Type 0) (F' : Type 0) (A' : Bool → Type 0) (U' : Type 0) (made longer : CompsD) →
      ((c : List Atom) (w : PointValue) → Rest c w ↔ (One c w ⊎ Next c w)) → (F → F') → ((o : Bool) → A o → A' o) → (U → U') →
      AddsSoFar n Rest W F A U before made → Adds n One F' A' U' made longer → AddsSoFar n Next W F A U before longer
  adds_more Rest One Next F' A' U' made longer split fits admits usual h add = record {
    members = λ c l w.
        let sofar = h.members c l w in
        let added = add.members c l w in
        let parts = split c w in (
          λ x. elim x [
            | inl p ↦ elim (added.0 p) [
              | inl q ↦ sofar.0 (inl q)
              | inr q ↦ sofar.0 (inr (parts.1 (inl q)))
            ]
            | inr p ↦ sofar.0 (inr (parts.1 (inr p)))
          ],
          λ x. elim (sofar.1 x) [
            | inl p ↦ inl (added.1 (inl p))
            | inr p ↦ elim (parts.0 p) [
              | inl q ↦ inl (added.1 (inr q))
              | inr q ↦ inr q
            ]
          ],
        );
    levels = λ f x. add.levels (fits f) (h.levels f x);
    operators = λ o a x. add.operators o (admits o a) (h.operators o a x);
    widths = λ u x. add.widths (usual u) (h.widths u x);
  }

  pub adds_end : (Rest : List Atom → PointValue → Type 0) (made : CompsD) → ((c : List Atom) (w : PointValue) → Rest c w → ⊥) → AddsSoFar n Rest W F A U before made → Adds n W F A U before made
  adds_end Rest made none h = record {
    members = λ c l w.
        let sofar = h.members c l w in (
          λ x. sofar.0 (inl x),
          λ x. elim (sofar.1 x) [ inl p ↦ p | inr p ↦ absurd (none c w p) ],
        );
    levels = h.levels;
    operators = h.operators;
    widths = h.widths;
  }

-- where nothing was there before, the members are those that were added
pub added_members : (n : ℕ) (W : List Atom → PointValue → Type 0) (F : Type 0) (A : Bool → Type 0) (U : Type 0) (made : CompsD) → Adds n W F A U no_comps made → (c : List Atom) → length c ≡ n → (w : PointValue) → IsIn w (point (coll made) c) ↔ W c w
added_members n W F A U made h c l w =
    let one = h.members c l w in
    let in_made = among_in made c w in (
      λ i. elim (one.0 (in_made.1 i)) [ inl p ↦ absurd p | inr p ↦ p ],
      λ p. in_made.0 (one.1 (inr p)),
    )

-- ---- what is made of one value
module _ (R : List Atom → PointValue → PointValue → Type 0) where
  pub one_split : (rest next : CompsD) (k : CompD) → rest ≡ more k next → (c : List Atom) (w : PointValue) →
      IsMadeOfOne (R c) (IsAmong rest c) w ↔ (IsMadeOfOne (R c) (IsCompMember k c) w ⊎ IsMadeOfOne (R c) (IsAmong next c) w)
  one_split rest next k e c w = subst (λ z. IsMadeOfOne (R c) (IsAmong z c) w ↔ (IsMadeOfOne (R c) (IsCompMember k c) w ⊎ IsMadeOfOne (R c) (IsAmong next c) w)) (sym e) (
    λ h. elim h.1 [
      | inl q ↦ inl (h.0, q, h.2)
      | inr q ↦ inr (h.0, q, h.2)
    ],
    λ h. elim h [
      | inl q ↦ (q.0, inl q.1, q.2)
      | inr q ↦ (q.0, inr q.1, q.2)
    ],
  )

  pub one_none : (rest : CompsD) → rest ≡ no_comps → (c : List Atom) (w : PointValue) → IsMadeOfOne (R c) (IsAmong rest c) w → ⊥
  one_none rest e c w h = subst (λ z. IsAmong z c h.0) e h.1

  pub one_among : (ks : CompsD) (c : List Atom) (w : PointValue) → IsMadeOfOne (R c) (IsAmong ks c) w ↔ IsMadeOfOne (R c) (λ x. IsIn x (point (coll ks) c)) w
  one_among ks c w = (
    λ h. (h.0, (among_in ks c h.0).0 h.1, h.2),
    λ h. (h.0, (among_in ks c h.0).1 h.1, h.2),
  )

-- ---- what is made of two values
module _ (R : PointValue → PointValue → PointValue → Type 0) where
  pub second_split : (P : PointValue → Type 0) (rest next : CompsD) (k : CompD) → rest ≡ more k next → (c : List Atom) (w : PointValue) →
      IsMadeOfTwo R P (IsAmong rest c) w ↔ (IsMadeOfTwo R P (IsCompMember k c) w ⊎ IsMadeOfTwo R P (IsAmong next c) w)
  second_split P rest next k e c w = subst (λ z. IsMadeOfTwo R P (IsAmong z c) w ↔ (IsMadeOfTwo R P (IsCompMember k c) w ⊎ IsMadeOfTwo R P (IsAmong next c) w)) (sym e) (
    λ h. elim h.3 [
      | inl q ↦ inl (h.0, h.1, h.2, q, h.4)
      | inr q ↦ inr (h.0, h.1, h.2, q, h.4)
    ],
    λ h. elim h [
      | inl q ↦ (q.0, q.1, q.2, inl q.3, q.4)
      | inr q ↦ (q.0, q.1, q.2, inr q.3, q.4)
    ],
  )

  pub first_split : (Q : List Atom → PointValue → Type 0) (rest next : CompsD) (k : CompD) → rest ≡ more k next → (c : List Atom) (w : PointValue) →
      IsMadeOfTwo R (IsAmong rest c) (Q c) w ↔ (IsMadeOfTwo R (IsCompMember k c) (Q c) w ⊎ IsMadeOfTwo R (IsAmong next c) (Q c) w)
  first_split Q rest next k e c w = subst (λ z. IsMadeOfTwo R (IsAmong z c) (Q c) w ↔ (IsMadeOfTwo R (IsCompMember k c) (Q c) w ⊎ IsMadeOfTwo R (IsAmong next c) (Q c) w)) (sym e) (
    λ h. elim h.2 [
      | inl q ↦ inl (h.0, h.1, q, h.3, h.4)
      | inr q ↦ inr (h.0, h.1, q, h.3, h.4)
    ],
    λ h. elim h [
      | inl q ↦ (q.0, q.1, inl q.2, q.3, q.4)
      | inr q ↦ (q.0, q.1, inr q.2, q.3, q.4)
    ],
  )

  pub second_none : (P : PointValue → Type 0) (rest : CompsD) → rest ≡ no_comps → (c : List Atom) (w : PointValue) → IsMadeOfTwo R P (IsAmong rest c) w → ⊥
  second_none P rest e c w h = subst (λ z. IsAmong z c h.1) e h.3

  pub first_none : (Q : List Atom → PointValue → Type 0) (rest : CompsD) → rest ≡ no_comps → (c : List Atom) (w : PointValue) → IsMadeOfTwo R (IsAmong rest c) (Q c) w → ⊥
  first_none Q rest e c w h = subst (λ z. IsAmong z c h.0) e h.2

  pub two_among : (ks qs : CompsD) (c : List Atom) (w : PointValue) → IsMadeOfTwo R (IsAmong ks c) (IsAmong qs c) w ↔ IsMadeOfTwo R (λ x. IsIn x (point (coll ks) c)) (λ y. IsIn y (point (coll qs) c)) w
  two_among ks qs c w = (
    λ h. (h.0, h.1, (among_in ks c h.0).0 h.2, (among_in qs c h.1).0 h.3, h.4),
    λ h. (h.0, h.1, (among_in ks c h.0).1 h.2, (among_in qs c h.1).1 h.3, h.4),
  )
