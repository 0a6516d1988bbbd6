-- Members by their shapes: sets that have none of a shape, and pairs whose first parts have one.
use Rattle.std.proofs.Common.{◌≡◌, ℕ, suc, inl, inr, Some, List, [], ◌∷◌, ◌++◌, length, map, refl, ap, ◌∙◌}
use Rattle.std.specs.Prelude.{slice_get}
use Rattle.lois_base.specs.Atom.{Atom}
use Rattle.lois_base.specs.Data.{TermD, CompD, comp, CompsD, coll, comps_of}
use Rattle.lois_base.specs.Validity.{AdmitsTerm}
use Rattle.lois_base.specs.Values.{PointValue, point, IsSame, IsIn}
use Rattle.lois_base.specs.declared.guards.Lit.{Lit}
use Rattle.lois_base.proofs.Members.{same_refl, same_sym, same_trans, in_same}
use Rattle.lois_algebra.specs.Gathered.{IsAmong, IsCompMember, IsPut}
use Rattle.lois_algebra.proofs.Among.{among_in}
use Rattle.lois_terms.specs.Shapes.{shape_of, item_shape}
use Rattle.lois_terms.proofs.Shapes.{one_shape}
use Rattle.lois_meaning.specs.Automata.{IsPair}
use Rattle.lois_meaning.proofs.Operations.{pair_to}
use Rattle.lois_automata.specs.Adding.{IsMadeOfOne}
use Rattle.lois_automata.specs.Built.{IsLedFrom}
use Rattle.lois_automata.specs.Projections.{pair_of}
use Rattle.lois_automata.proofs.Adding.{added_put, one_among}
use Rattle.lois_automata.proofs.Written.{pair_here, pair_term}
use Rattle.lois_minimise.specs.Classes.{AddsTold, AreTold, HasFirstOfShape, AddsOfShape, ArePairsOfShape, IsClassTerm}
use Rattle.lois_minimise.proofs.Matching.{MatchesOnes, matching_all, matching_none}

-- a member of a set stands in it under its shape
shape_listed : (ks : List CompD) (c d : List Atom) (w : PointValue) (t : TermD) → IsSame w (point t d) → IsAmong (comps_of ks) c w → (i : ℕ) × (slice_get (map item_shape ks) i ≡ Some (shape_of t))
shape_listed [] c d w t s h = absurd h
shape_listed (comp m g x ∷ ks) c d w t s (inl (e, ext, same)) = (0, ap Some (one_shape x t (c ++ e) d (same_trans (point x (c ++ e)) w (point t d) same s)))
shape_listed (comp m g x ∷ ks) c d w t s (inr h) =
    let there = shape_listed ks c d w t s h in
    (suc there.0, there.1)

-- ---- what moves lead to
-- nothing is led from members of a set without the shape, nor to them
module _ (n m : ℕ) (g : List (List Lit)) (a b : TermD) (ks qs : List CompD) (before : CompsD) where
  ends_here : (c e : List Atom) (x p w : PointValue) → IsSame (point (pair_of a b) (c ++ e)) x → IsPair x p w → IsSame p (point a (c ++ e)) × IsSame w (point b (c ++ e))
  ends_here c e x p w same pair =
      let d = c ++ e in
      pair_here a b d p w (pair_to x (point (pair_of a b) d) p w (same_sym (point (pair_of a b) d) x same) pair)

  pub none_from : ((i : ℕ) → slice_get (map item_shape ks) i ≡ Some (shape_of a) → ⊥) → AddsTold n (comp m g (pair_of a b)) (coll (comps_of ks)) (coll (comps_of qs)) before before
  none_from never = matching_none n _ _ _ _ _ before none
    where
      none : (c : List Atom) → length c ≡ n → (w : PointValue) → IsMadeOfOne (IsLedFrom (coll (comps_of ks)) c) (IsCompMember (comp m g (pair_of a b)) c) w → IsIn w (point (coll (comps_of qs)) c) → ⊥
      none c l w (x, (e, ext, same), (p, pair, i)) j =
          let there = shape_listed ks c (c ++ e) p a (ends_here c e x p w same pair).0 ((among_in (comps_of ks) c p).1 i) in
          never there.0 there.1

  pub none_to : ((i : ℕ) → slice_get (map item_shape qs) i ≡ Some (shape_of b) → ⊥) → AddsTold n (comp m g (pair_of a b)) (coll (comps_of ks)) (coll (comps_of qs)) before before
  none_to never = matching_none n _ _ _ _ _ before none
    where
      none : (c : List Atom) → length c ≡ n → (w : PointValue) → IsMadeOfOne (IsLedFrom (coll (comps_of ks)) c) (IsCompMember (comp m g (pair_of a b)) c) w → IsIn w (point (coll (comps_of qs)) c) → ⊥
      none c l w (x, (e, ext, same), (p, pair, i)) j =
          let there = shape_listed qs c (c ++ e) w b (ends_here c e x p w same pair).1 ((among_in (comps_of qs) c w).1 j) in
          never there.0 there.1

pub are_told : (n : ℕ) (vs : List CompD) (made : CompsD) (s t : TermD) → MatchesOnes (IsLedFrom s) (λ c w. IsIn w (point t c)) (λ o. AdmitsTerm o s) n vs made → AreTold n (coll (comps_of vs)) s t (coll made)
are_told n vs made s t h = record {
  only = λ c l w i. elim (h.only c l w ((among_in made c w).1 i)) [
    | inl p ↦ absurd p
    | inr p ↦ let f = (one_among (IsLedFrom s) (comps_of vs) c w).0 p in (f.2.0, f.2.2, (f.0, f.1, f.2.1))
  ];
  all = λ c l p w i lead j. (among_in made c w).0 (h.all c l w ((one_among (IsLedFrom s) (comps_of vs) c w).1 (lead.0, lead.1, (p, lead.2, i))) j);
}

-- ---- pairs by the shapes of their first parts
module _ (n s m : ℕ) (g : List (List Lit)) (t : TermD) (before : CompsD) where
  pub adds_of_shape : (after : CompsD) → IsPut (comp m g t) before after → AddsOfShape n s (comp m g t) before after
  adds_of_shape after put = matching_all n _ _ _ _ _ before after (added_put n (comp m g t) _ _ _ _ before after put (λ c _ w. (λ i. (w, i, same_refl w), member c w)) (λ f. f) (λ o k. k) (λ u. u))
    where
      member : (c : List Atom) (w : PointValue) → IsMadeOfOne IsSame (IsCompMember (comp m g t) c) w → IsCompMember (comp m g t) c w
      member c w (x, (e, ext, h), h') = (e, ext, same_trans (point t (c ++ e)) x w h h')

  pub no_pair_of_shape : ((a b : TermD) → t ≡ pair_of a b → shape_of a ≡ s → ⊥) → AddsOfShape n s (comp m g t) before before
  no_pair_of_shape never = matching_none n _ _ _ _ _ before none
    where
      none : (c : List Atom) → length c ≡ n → (w : PointValue) → IsMadeOfOne IsSame (IsCompMember (comp m g t) c) w → HasFirstOfShape s w → ⊥
      none c l w (x, (e, ext, h), h') (p, q, pair, is) =
          let d = c ++ e in
          let f = pair_term t d p q (pair_to w (point t d) p q (same_sym (point t d) w (same_trans (point t d) x w h h')) pair) in
          never f.0 f.1 f.2 (one_shape f.0 p.term_of d p.choice (same_sym p (point f.0 d) f.3) ∙ is)

pub are_pairs_of_shape : (n s : ℕ) (vs : List CompD) (made : CompsD) → MatchesOnes (λ _. IsSame) (λ _. HasFirstOfShape s) (λ _. Unit {0}) n vs made → ArePairsOfShape n s (coll (comps_of vs)) (coll made)
are_pairs_of_shape n s vs made h = record {
  only = λ c l w i. elim (h.only c l w ((among_in made c w).1 i)) [
    | inl p ↦ absurd p
    | inr p ↦ in_same p.0 w (point (coll (comps_of vs)) c) p.2 ((among_in (comps_of vs) c p.0).0 p.1)
  ];
  all = λ c l w i f. (among_in made c w).0 (h.all c l w (w, (among_in (comps_of vs) c w).1 i, same_refl w) f);
}

-- pairs with other first parts lead an item nowhere
pub class_of_all : (n m : ℕ) (alike picked item r : TermD) → ArePairsOfShape n (shape_of item) alike picked → IsClassTerm n m picked item r → IsClassTerm n m alike item r
class_of_all n m alike picked item r of is c e l k q =
    let h = is c e l k q in (
      λ i. let lead = h.0 i in (lead.0, of.only c l lead.0 lead.1, lead.2),
      λ lead. h.1 (lead.0, of.all c l lead.0 lead.1 (point item (c ++ e), q, lead.2, refl), lead.2),
    )
