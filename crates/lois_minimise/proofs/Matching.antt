-- Loops that add members, of which those that can't match may be left out; and transitions whose shapes no step has.
use Rattle.std.proofs.Common.{◌≡◌, ℕ, suc, ◌+◌, ◌<◌, ◌≤◌, Bool, ◌⊎◌, inl, inr, ◌↔◌, Some, List, [], ◌∷◌, ◌++◌, length, get_or, map, sym, subst, ap, ◌∙◌}
use Rattle.std.specs.Prelude.{slice_get}
use Rattle.lois_base.specs.Atom.{Atom}
use Rattle.lois_base.specs.Data.{TermD, CompD, comp, CompsD, no_comps, coll, comps_of}
use Rattle.lois_base.specs.Fits.{CompFits, ItemsFit}
use Rattle.lois_base.specs.Tree.{comp_of}
use Rattle.lois_base.specs.Validity.{AdmitsComp, AdmitsItems, CompHasBoundedWidths, ItemsHaveBoundedWidths}
use Rattle.lois_base.specs.Values.{PointValue, point, IsSame}
use Rattle.lois_base.specs.declared.guards.Lit.{Lit}
use Rattle.lois_base.specs.declared.values.Comp.{Comp}
use Rattle.lois_base.proofs.Members.{same_refl, same_sym, same_trans}
use Rattle.lois_algebra.specs.Gathered.{IsAmong, IsCompMember}
use Rattle.lois_algebra.proofs.Among.{among_in}
use Rattle.lois_terms.specs.Hash.{mixed}
use Rattle.lois_terms.specs.Shapes.{shape_of, item_shape}
use Rattle.lois_terms.proofs.Shapes.{one_shape}
use Rattle.lois_meaning.specs.Automata.{IsTriple}
use Rattle.lois_meaning.proofs.Operations.{pair_both, pair_to}
use Rattle.lois_meaning.proofs.Tuples.{triple_to}
use Rattle.lois_relate.proofs.Parts.{comps_from, comps_are, no_comps_left, is_comp_of, IsCompOf}
use Rattle.lois_automata.specs.Adding.{Adds, IsMadeOfOne, IsMadeOfTwo, IsPairOf}
use Rattle.lois_automata.specs.Projections.{pair_of, triple_of}
use Rattle.lois_automata.proofs.Adding.{one_split, one_none, first_split, first_none, second_split, second_none, two_among}
use Rattle.lois_automata.proofs.Written.{pair_term, triple_term}
use Rattle.lois_minimise.specs.Classes.{HasStepOf, AreTransitions, AddsMatching, AddsTransition, AddsTransitions}

-- ---- loops
-- as a loop goes: of what W names, what M names too was added, up to the rest
pub record MatchingSoFar (n : ℕ) (Rest W M : List Atom → PointValue → Type 0) (F : Type 0) (A : Bool → Type 0) (U : Type 0) (before made : CompsD) : Type 0 where
  pub only : (c : List Atom) → length c ≡ n → (w : PointValue) → IsAmong made c w ⊎ Rest c w → IsAmong before c w ⊎ W c w
  pub kept : (c : List Atom) → length c ≡ n → (w : PointValue) → IsAmong before c w → IsAmong made c w
  pub all : (c : List Atom) → length c ≡ n → (w : PointValue) → W c w → M c w → IsAmong made c w ⊎ Rest c w
  pub levels : F → ItemsFit n before → ItemsFit n made
  pub operators : (o : Bool) → A o → AdmitsItems o before → AdmitsItems o made
  pub widths : U → ItemsHaveBoundedWidths before → ItemsHaveBoundedWidths made

module _ (n : ℕ) (W M : List Atom → PointValue → Type 0) (F : Type 0) (A : Bool → Type 0) (U : Type 0) (before : CompsD) where
  matching_begin : MatchingSoFar n W W M F A U before before
  matching_begin = record {
    only = λ c l w h. h;
    kept = λ c l w h. h;
    all = λ c l w h m. inr h;
    levels = λ f h. h;
    operators = λ o a h. h;
    widths = λ u h. h;
  }

  matching_more : (Rest One Next : List Atom → PointValue → Type 0) (F' : Type 0) (A' : Bool → Type 0) (U' : Type 0) (made longer : CompsD) →
      ((c : List Atom) (w : PointValue) → Rest c w ↔ (One c w ⊎ Next c w)) → (F → F') → ((o : Bool) → A o → A' o) → (U → U') →
      MatchingSoFar n Rest W M F A U before made → AddsMatching n One M F' A' U' made longer → MatchingSoFar n Next W M F A U before longer
  matching_more Rest One Next F' A' U' made longer split fits admits usual h add = record {
    only = λ c l w x. elim x [
      | inl p ↦ elim (add.only c l w p) [
        | inl q ↦ h.only c l w (inl q)
        | inr q ↦ h.only c l w (inr ((split c w).1 (inl q)))
      ]
      | inr p ↦ h.only c l w (inr ((split c w).1 (inr p)))
    ];
    kept = λ c l w x. add.kept c l w (h.kept c l w x);
    all = λ c l w x m. elim (h.all c l w x m) [
      | inl p ↦ inl (add.kept c l w p)
      | inr p ↦ elim ((split c w).0 p) [
        | inl q ↦ inl (add.all c l w q m)
        | inr q ↦ inr q
      ]
    ];
    levels = λ f x. add.levels (fits f) (h.levels f x);
    operators = λ o a x. add.operators o (admits o a) (h.operators o a x);
    widths = λ u x. add.widths (usual u) (h.widths u x);
  }

  matching_end : (Rest : List Atom → PointValue → Type 0) (made : CompsD) → ((c : List Atom) (w : PointValue) → Rest c w → ⊥) → MatchingSoFar n Rest W M F A U before made → AddsMatching n W M F A U before made
  matching_end Rest made none h = record {
    only = λ c l w x. h.only c l w (inl x);
    kept = h.kept;
    all = λ c l w x m. elim (h.all c l w x m) [
      | inl p ↦ p
      | inr p ↦ absurd (none c w p)
    ];
    levels = h.levels;
    operators = h.operators;
    widths = h.widths;
  }

  -- all is added, or nothing where nothing matches
  pub matching_all : (after : CompsD) → Adds n W F A U before after → AddsMatching n W M F A U before after
  matching_all after add = record {
    only = λ c l w h. (add.members c l w).0 h;
    kept = λ c l w h. (add.members c l w).1 (inl h);
    all = λ c l w h m. (add.members c l w).1 (inr h);
    levels = add.levels;
    operators = add.operators;
    widths = add.widths;
  }

  pub matching_none : ((c : List Atom) → length c ≡ n → (w : PointValue) → W c w → M c w → ⊥) → AddsMatching n W M F A U before before
  matching_none never = record {
    only = λ c l w h. inl h;
    kept = λ c l w h. h;
    all = λ c l w h m. absurd (never c l w h m);
    levels = λ f h. h;
    operators = λ o a h. h;
    widths = λ u h. h;
  }

-- ---- of each comprehension of a list, where X says what further operators have to be admitted
module _ (R : List Atom → PointValue → PointValue → Type 0) (M : List Atom → PointValue → Type 0) (X : Bool → Type 0) (n : ℕ) (vs : List CompD) where
  abbrev pub OnesMet : CompsD → CompsD → Type 0
  OnesMet rest made = MatchingSoFar n (λ c. IsMadeOfOne (R c) (IsAmong rest c)) (λ c. IsMadeOfOne (R c) (IsAmong (comps_of vs) c)) M (ItemsFit n (comps_of vs)) (λ o. AdmitsItems o (comps_of vs) × X o) (ItemsHaveBoundedWidths (comps_of vs)) no_comps made

  abbrev pub MatchesOnes : CompsD → Type 0
  MatchesOnes made = AddsMatching n (λ c. IsMadeOfOne (R c) (IsAmong (comps_of vs) c)) M (ItemsFit n (comps_of vs)) (λ o. AdmitsItems o (comps_of vs) × X o) (ItemsHaveBoundedWidths (comps_of vs)) no_comps made

  pub ones_met_begin : (items : List Comp) (made : List CompD) → map comp_of items ≡ vs → made ≡ [] → OnesMet (comps_from items 0) (comps_of made)
  ones_met_begin items made e empty =
      subst (λ z. OnesMet (comps_of z) (comps_of made)) (sym e) (subst (λ z. OnesMet (comps_of vs) (comps_of z)) (sym empty) (matching_begin n _ _ _ _ _ no_comps))

  pub ones_met_more : (A : Bool → Type 0) (items : List Comp) (i : ℕ) (k : Comp) (made longer : CompsD) → map comp_of items ≡ vs → i < length items → k ≡ get_or items i k → ((o : Bool) → AdmitsComp o (comp_of k) × X o → A o) →
      OnesMet (comps_from items i) made → AddsMatching n (λ c. IsMadeOfOne (R c) (IsCompMember (comp_of k) c)) M (CompFits n (comp_of k)) A (CompHasBoundedWidths (comp_of k)) made longer → OnesMet (comps_from items (i + 1)) longer
  ones_met_more A items i k made longer e l is admits h add =
      let of : IsCompOf vs k = is_comp_of items vs i k e l is in
      matching_more n _ _ _ _ _ no_comps _ _ _ _ _ _ made longer (one_split R (comps_from items i) (comps_from items (i + 1)) (comp_of k) (comps_are items i k l is))
      (λ f. of.fits n f) (λ o a. admits o (of.admits o a.0, a.1)) of.widths h add

  pub ones_met_end : (items : List Comp) (i : ℕ) (made : CompsD) → length items ≤ i → OnesMet (comps_from items i) made → MatchesOnes made
  ones_met_end items i made l h = matching_end n _ _ _ _ _ no_comps _ made (one_none R (comps_from items i) (no_comps_left items i l)) h

-- ---- of a read and each class
module _ (n : ℕ) (steps : TermD) (k : CompD) (qs : List CompD) (before : CompsD) where
  abbrev pub ClassesMet : CompsD → CompsD → Type 0
  ClassesMet rest made = MatchingSoFar n (λ c. IsMadeOfTwo IsPairOf (IsCompMember k c) (IsAmong rest c)) (λ c. IsMadeOfTwo IsPairOf (IsCompMember k c) (IsAmong (comps_of qs) c)) (λ c. HasStepOf (point steps c)) (CompFits n k × ItemsFit n (comps_of qs)) (λ o. AdmitsComp o k × AdmitsItems o (comps_of qs)) (CompHasBoundedWidths k × ItemsHaveBoundedWidths (comps_of qs)) before made

  pub classes_met_begin : (items : List Comp) → map comp_of items ≡ qs → ClassesMet (comps_from items 0) before
  classes_met_begin items e = subst (λ z. ClassesMet (comps_of z) before) (sym e) (matching_begin n _ _ _ _ _ before)

  pub classes_met_more : (items : List Comp) (i : ℕ) (q : Comp) (made longer : CompsD) → map comp_of items ≡ qs → i < length items → q ≡ get_or items i q →
      ClassesMet (comps_from items i) made → AddsTransition n k (comp_of q) steps made longer → ClassesMet (comps_from items (i + 1)) longer
  classes_met_more items i q made longer e l is h add =
      let of : IsCompOf qs q = is_comp_of items qs i q e l is in
      matching_more n _ _ _ _ _ before _ _ _ _ _ _ made longer (λ c. second_split IsPairOf (IsCompMember k c) (comps_from items i) (comps_from items (i + 1)) (comp_of q) (comps_are items i q l is) c)
      (λ f. (f.0, of.fits n f.1)) (λ o a. (a.0, of.admits o a.1)) (λ u. (u.0, of.widths u.1)) h add

  pub classes_met_end : (items : List Comp) (i : ℕ) (made : CompsD) → length items ≤ i → ClassesMet (comps_from items i) made → AddsTransitions n k (comps_of qs) steps before made
  classes_met_end items i made l h = matching_end n _ _ _ _ _ before _ made (λ c. second_none IsPairOf (IsCompMember k c) (comps_from items i) (no_comps_left items i l) c) h

-- ---- of each read
module _ (n : ℕ) (steps : TermD) (ks qs : List CompD) where
  abbrev pub ReadsMet : CompsD → CompsD → Type 0
  ReadsMet rest made = MatchingSoFar n (λ c. IsMadeOfTwo IsPairOf (IsAmong rest c) (IsAmong (comps_of qs) c)) (λ c. IsMadeOfTwo IsPairOf (IsAmong (comps_of ks) c) (IsAmong (comps_of qs) c)) (λ c. HasStepOf (point steps c)) (ItemsFit n (comps_of ks) × ItemsFit n (comps_of qs)) (λ o. AdmitsItems o (comps_of ks) × AdmitsItems o (comps_of qs)) (ItemsHaveBoundedWidths (comps_of ks) × ItemsHaveBoundedWidths (comps_of qs)) no_comps made

  pub reads_met_begin : (items : List Comp) (made : List CompD) → map comp_of items ≡ ks → made ≡ [] → ReadsMet (comps_from items 0) (comps_of made)
  reads_met_begin items made e empty =
      subst (λ z. ReadsMet (comps_of z) (comps_of made)) (sym e) (subst (λ z. ReadsMet (comps_of ks) (comps_of z)) (sym empty) (matching_begin n _ _ _ _ _ no_comps))

  pub reads_met_more : (items : List Comp) (i : ℕ) (k : Comp) (made longer : CompsD) → map comp_of items ≡ ks → i < length items → k ≡ get_or items i k →
      ReadsMet (comps_from items i) made → AddsTransitions n (comp_of k) (comps_of qs) steps made longer → ReadsMet (comps_from items (i + 1)) longer
  reads_met_more items i k made longer e l is h add =
      let of : IsCompOf ks k = is_comp_of items ks i k e l is in
      matching_more n _ _ _ _ _ no_comps _ _ _ _ _ _ made longer (first_split IsPairOf (λ c. IsAmong (comps_of qs) c) (comps_from items i) (comps_from items (i + 1)) (comp_of k) (comps_are items i k l is))
      (λ f. (of.fits n f.0, f.1)) (λ o a. (of.admits o a.0, a.1)) (λ u. (of.widths u.0, u.1)) h add

  pub reads_met_end : (items : List Comp) (i : ℕ) (made : CompsD) → length items ≤ i → ReadsMet (comps_from items i) made → AreTransitions n (coll (comps_of ks)) (coll (comps_of qs)) steps (coll made)
  reads_met_end items i made l h =
      let all = matching_end n _ _ _ _ _ no_comps _ made (first_none IsPairOf (λ c. IsAmong (comps_of qs) c) (comps_from items i) (no_comps_left items i l)) h in
      record {
        only = λ c m w x. elim (all.only c m w ((among_in made c w).1 x)) [
          | inl p ↦ absurd p
          | inr p ↦ (two_among IsPairOf (comps_of ks) (comps_of qs) c w).0 p
        ];
        all = λ c m w x s. (among_in made c w).0 (all.all c m w ((two_among IsPairOf (comps_of ks) (comps_of qs) c w).1 x) s);
      }

-- ---- shapes
triple_shape : (p l q p' l' q' : TermD) → shape_of p ≡ shape_of p' → shape_of l ≡ shape_of l' → shape_of q ≡ shape_of q' → shape_of (triple_of p l q) ≡ shape_of (triple_of p' l' q')
triple_shape p l q p' l' q' e1 e2 e3 =
    ap (λ z. mixed (mixed (mixed 3 z) (shape_of l)) (shape_of q)) e1 ∙ (ap (λ z. mixed (mixed (mixed 3 (shape_of p')) z) (shape_of q)) e2 ∙ ap (λ z. mixed (mixed (mixed 3 (shape_of p')) (shape_of l')) z) e3)

-- a step stands in the list under the shape of any triple with its parts
step_shape : (ks : List CompD) (c d1 d2 d3 : List Atom) (s p l q : PointValue) (P L Q : TermD) → IsAmong (comps_of ks) c s → IsTriple s p l q → IsSame (point P d1) p → IsSame (point L d2) l → IsSame (point Q d3) q → (i : ℕ) × (slice_get (map item_shape ks) i ≡ Some (shape_of (triple_of P L Q)))
step_shape [] c d1 d2 d3 s p l q P L Q h t sp sl sq = absurd h
step_shape (comp m g x ∷ ks) c d1 d2 d3 s p l q P L Q (inl (e, ext, same)) t sp sl sq =
    let d = c ++ e in
    let f = triple_term x d p l q (triple_to s (point x d) p l q (same_sym (point x d) s same) t) in
    let e1 : shape_of f.0 ≡ shape_of P = one_shape f.0 P d d1 (same_trans (point f.0 d) p (point P d1) (same_sym p (point f.0 d) f.4) (same_sym (point P d1) p sp)) in
    let e2 : shape_of f.1 ≡ shape_of L = one_shape f.1 L d d2 (same_trans (point f.1 d) l (point L d2) (same_sym l (point f.1 d) f.5) (same_sym (point L d2) l sl)) in
    let e3 : shape_of f.2 ≡ shape_of Q = one_shape f.2 Q d d3 (same_trans (point f.2 d) q (point Q d3) (same_sym q (point f.2 d) f.6) (same_sym (point Q d3) q sq)) in
    (0, ap Some (ap shape_of f.3 ∙ triple_shape f.0 f.1 f.2 P L Q e1 e2 e3))
step_shape (comp m g x ∷ ks) c d1 d2 d3 s p l q P L Q (inr h) t sp sl sq =
    let there = step_shape ks c d1 d2 d3 s p l q P L Q h t sp sl sq in
    (suc there.0, there.1)

-- where no step has the shape, there is none between the states
pub no_step_between : (n : ℕ) (ks : List CompD) (m m' : ℕ) (g g' : List (List Lit)) (read class : TermD) (shapes : List ℕ) → shapes ≡ map item_shape ks →
    ((q x l r z : TermD) (i : ℕ) → read ≡ pair_of (pair_of q x) l → class ≡ pair_of r z → slice_get shapes i ≡ Some (shape_of (triple_of q l r)) → ⊥) → (before : CompsD) → AddsTransition n (comp m g read) (comp m' g' class) (coll (comps_of ks)) before before
no_step_between n ks m m' g g' read class shapes are never before = matching_none n _ _ _ _ _ before none
  where
    none : (c : List Atom) → length c ≡ n → (w : PointValue) → IsMadeOfTwo IsPairOf (IsCompMember (comp m g read) c) (IsCompMember (comp m' g' class) c) w → HasStepOf (point (coll (comps_of ks)) c) w → ⊥
    none c len w (x, y, (e, ext, same), (e', ext', same'), pair) (q, k, l, r, z, (from, to_read, to, h1, h2, h3, h4), (s, i, t)) =
        let d = c ++ e in
        let d' = c ++ e' in
        let both : IsSame x to_read × IsSame y to = pair_both w w x y to_read to (same_refl w) pair h4 in
        let outer = pair_term read d from l (pair_to to_read (point read d) from l (same_sym (point read d) to_read (same_trans (point read d) x to_read same both.0)) h2) in
        let inner = pair_term outer.0 d q k (pair_to from (point outer.0 d) q k outer.3 h1) in
        let target = pair_term class d' r z (pair_to to (point class d') r z (same_sym (point class d') to (same_trans (point class d') y to same' both.1)) h3) in
        let there = step_shape ks c d d d' s q l r inner.0 outer.1 target.0 ((among_in (comps_of ks) c s).1 i) t (same_sym q (point inner.0 d) inner.3) (same_sym l (point outer.1 d) outer.4) (same_sym r (point target.0 d') target.3) in
        never inner.0 inner.1 outer.1 target.0 target.1 there.0 (outer.2 ∙ ap (λ v. pair_of v outer.1) inner.2) target.2 (ap (λ v. slice_get v there.0) are ∙ there.1)
