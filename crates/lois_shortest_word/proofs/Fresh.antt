-- What is new of the members of a list.
use Rattle.std.proofs.Common.{◌≡◌, ℕ, ◌+◌, ◌<◌, ◌≤◌, Bool, true, false, not, ◌&&◌, ◌⊎◌, inl, inr, ◌↔◌, List, [], ◌++◌, length, get_or, map, refl, sym, ap, subst, ◌∙◌}
use Rattle.std.specs.Bool.{IsTrue}
use Rattle.lois_base.specs.Atom.{Atom}
use Rattle.lois_base.specs.Data.{TermD, coll, CompD, comp, CompsD, comps_of}
use Rattle.lois_base.specs.Fits.{CompFits, ItemsFit}
use Rattle.lois_base.specs.Tree.{comp_of}
use Rattle.lois_base.specs.Truth.{holds}
use Rattle.lois_base.specs.Validity.{AdmitsComp, AdmitsItems}
use Rattle.lois_base.specs.Values.{PointValue, point, IsIn}
use Rattle.lois_base.specs.declared.guards.Lit.{Lit}
use Rattle.lois_base.specs.declared.values.Comp.{Comp}
use Rattle.lois_base.proofs.Connectives.{both_true}
use Rattle.lois_base.proofs.Members.{in_same}
use Rattle.lois_algebra.specs.Gathered.{IsAmong, IsCompMember, IsPut}
use Rattle.lois_algebra.proofs.Among.{among_in}
use Rattle.lois_relate.proofs.Parts.{comps_from, comps_are, no_comps_left, is_comp_of, IsCompOf}
use Rattle.lois_shortest_word.specs.Pairs.{AddsFresh, AreFresh}
use Rattle.lois_shortest_word.proofs.Firsts.{among_item}

module _ (n m : ℕ) (g found guard : List (List Lit)) (item : TermD) (seen fresh seen' fresh' : CompsD)
    (is : (c e : List Atom) → length c ≡ n → length e ≡ m → IsTrue (holds (c ++ e) found) ↔ IsIn (point item (c ++ e)) (point (coll seen) c)) (met : (d : List Atom) → holds d guard ≡ (holds d g && not (holds d found)))
    (put : IsPut (comp m guard item) seen seen') (put' : IsPut (comp m guard item) fresh fresh') where
  wider : (c : List Atom) (w : PointValue) → IsCompMember (comp m guard item) c w → IsCompMember (comp m g item) c w
  wider c w (e, ext, same) = (e, record { count = ext.count; guard = ((both_true (holds (c ++ e) g) (not (holds (c ++ e) found))).0 (sym (met (c ++ e)) ∙ ext.guard)).0 }, same)

  -- a member was seen, or it is new
  seen_or_new : (c : List Atom) → length c ≡ n → (w : PointValue) → IsCompMember (comp m g item) c w → IsAmong seen c w ⊎ IsCompMember (comp m guard item) c w
  seen_or_new c k w (e, ext, same) = go (holds (c ++ e) found) refl
    where
      go : (b : Bool) → holds (c ++ e) found ≡ b → IsAmong seen c w ⊎ IsCompMember (comp m guard item) c w
      go true h = inl ((among_in seen c w).1 (in_same (point item (c ++ e)) w (point (coll seen) c) same ((is c e k ext.count).0 h)))
      go false h = inr (e, record { count = ext.count; guard = met (c ++ e) ∙ (both_true (holds (c ++ e) g) (not (holds (c ++ e) found))).1 (ext.guard, ap not h) }, same)

  pub adds_fresh : CompFits n (comp m guard item) → ((o : Bool) → AdmitsComp o (comp m g item) → AdmitsItems o seen → AdmitsComp o (comp m guard item)) → AddsFresh n (comp m g item) seen fresh seen' fresh'
  adds_fresh fits admits = record {
    all = λ c k w. (
      λ h. elim ((put.members c w).0 h) [ inl p ↦ inl p | inr p ↦ inr (wider c w p) ],
      λ h. (put.members c w).1 (elim h [ inl p ↦ inl p | inr p ↦ seen_or_new c k w p ]),
    );
    kept = λ c k w h. (put'.members c w).1 (inl h);
    only = λ c k w h. elim ((put'.members c w).0 h) [ inl p ↦ inl p | inr p ↦ inr (wider c w p) ];
    new = λ c k w h. elim ((put.members c w).0 h) [ inl p ↦ inl p | inr p ↦ inr ((put'.members c w).1 (inr p)) ];
    levels = λ h f. (put.levels n h fits, put'.levels n f fits);
    operators = λ o a h f. (put.operators o h (admits o a h), put'.operators o f (admits o a h));
  }

-- as a loop goes: the rest of the list is still to come
pub record FreshSoFar (n : ℕ) (ks rest before seen fresh : CompsD) : Type 0 where
  pub all : (c : List Atom) → length c ≡ n → (w : PointValue) → (IsAmong seen c w ⊎ IsAmong rest c w) ↔ (IsAmong before c w ⊎ IsAmong ks c w)
  pub only : (c : List Atom) → length c ≡ n → (w : PointValue) → IsAmong fresh c w → IsAmong ks c w
  pub new : (c : List Atom) → length c ≡ n → (w : PointValue) → IsAmong seen c w → IsAmong before c w ⊎ IsAmong fresh c w
  pub levels : ItemsFit n seen × ItemsFit n fresh
  pub operators : (o : Bool) → AdmitsItems o ks → AdmitsItems o before → AdmitsItems o seen × AdmitsItems o fresh

module _ (n : ℕ) (vs : List CompD) (before : CompsD) where
  pub fresh_begin : (items : List Comp) (fresh : List CompD) → map comp_of items ≡ vs → fresh ≡ [] → ItemsFit n before → FreshSoFar n (comps_of vs) (comps_from items 0) before before (comps_of fresh)
  fresh_begin items fresh e empty fits =
      subst (λ z. FreshSoFar n (comps_of vs) (comps_of z) before before (comps_of fresh)) (sym e) (subst (λ z. FreshSoFar n (comps_of vs) (comps_of vs) before before (comps_of z)) (sym empty) (record {
        all = λ c k w. (λ h. h, λ h. h);
        only = λ c k w h. absurd h;
        new = λ c k w h. inl h;
        levels = (fits, tt);
        operators = λ o a h. (h, tt);
      }))

  pub fresh_more : (items : List Comp) (i : ℕ) (one : Comp) (seen fresh seen' fresh' : CompsD) → map comp_of items ≡ vs → i < length items → one ≡ get_or items i one →
      FreshSoFar n (comps_of vs) (comps_from items i) before seen fresh → AddsFresh n (comp_of one) seen fresh seen' fresh' → FreshSoFar n (comps_of vs) (comps_from items (i + 1)) before seen' fresh'
  fresh_more items i one seen fresh seen' fresh' e l is h add = record {
    all = λ c k w.
        let was = h.all c k w in
        let here = add.all c k w in (
          λ x. elim x [
            | inl p ↦ elim (here.0 p) [
              | inl q ↦ was.0 (inl q)
              | inr q ↦ was.0 (inr (front c w (inl q)))
            ]
            | inr p ↦ was.0 (inr (front c w (inr p)))
          ],
          λ x. elim (was.1 x) [
            | inl p ↦ inl (here.1 (inl p))
            | inr p ↦ elim (rest c w p) [
              | inl q ↦ inl (here.1 (inr q))
              | inr q ↦ inr q
            ]
          ],
        );
    only = λ c k w x. elim (add.only c k w x) [
      | inl p ↦ h.only c k w p
      | inr p ↦ among_item items vs i one e l is c w p
    ];
    new = λ c k w x. elim (add.new c k w x) [
      | inl p ↦ elim (h.new c k w p) [
        | inl q ↦ inl q
        | inr q ↦ inr (add.kept c k w q)
      ]
      | inr p ↦ inr p
    ];
    levels = add.levels h.levels.0 h.levels.1;
    operators = λ o a b.
        let was = h.operators o a b in
        add.operators o (of.admits o a) was.0 was.1;
  }
    where
      of : IsCompOf vs one
      of = is_comp_of items vs i one e l is

      front : (c : List Atom) (w : PointValue) → IsCompMember (comp_of one) c w ⊎ IsAmong (comps_from items (i + 1)) c w → IsAmong (comps_from items i) c w
      front c w h = subst (λ z. IsAmong z c w) (sym (comps_are items i one l is)) h

      rest : (c : List Atom) (w : PointValue) → IsAmong (comps_from items i) c w → IsCompMember (comp_of one) c w ⊎ IsAmong (comps_from items (i + 1)) c w
      rest c w h = subst (λ z. IsAmong z c w) (comps_are items i one l is) h

  pub fresh_end : (items : List Comp) (i : ℕ) (seen fresh : CompsD) → length items ≤ i → FreshSoFar n (comps_of vs) (comps_from items i) before seen fresh → AreFresh n (comps_of vs) before seen fresh
  fresh_end items i seen fresh l h = record {
    all = λ c k w.
        let was = h.all c k w in (
          λ x. was.0 (inl x),
          λ x. elim (was.1 x) [ inl p ↦ p | inr p ↦ absurd (subst (λ z. IsAmong z c w) (no_comps_left items i l) p) ],
        );
    only = h.only;
    new = h.new;
    levels = h.levels;
    operators = h.operators;
  }
