-- Pairs whose parts are in two sets.
use Rattle.std.proofs.Common.{◌≡◌, ℕ, ◌+◌, Bool, ◌&&◌, ◌↔◌, List, ◌++◌, length, sym, ◌∙◌}
use Rattle.std.specs.Bool.{IsTrue}
use Rattle.lois_base.specs.Atom.{Atom}
use Rattle.lois_base.specs.Data.{TermD, coll, comp, CompsD}
use Rattle.lois_base.specs.Fits.{ConstraintFits}
use Rattle.lois_base.specs.Truth.{holds}
use Rattle.lois_base.specs.Validity.{AdmitsConstraint, AdmitsTerm}
use Rattle.lois_base.specs.Values.{PointValue, point, IsIn}
use Rattle.lois_base.specs.declared.guards.Lit.{Lit}
use Rattle.lois_base.proofs.Connectives.{both_true}
use Rattle.lois_base.proofs.Members.{same_refl, same_sym, same_trans, in_same}
use Rattle.lois_algebra.specs.Gathered.{IsAmong, IsCompMember, IsPut}
use Rattle.lois_algebra.proofs.Among.{among_in}
use Rattle.lois_meaning.proofs.Operations.{pair_to}
use Rattle.lois_automata.specs.Adding.{IsMadeOfOne}
use Rattle.lois_automata.specs.Built.{HoldsWhereMember}
use Rattle.lois_automata.specs.Projections.{pair_of}
use Rattle.lois_automata.proofs.Adding.{added_put, adds_nothing}
use Rattle.lois_automata.proofs.Written.{pair_is, pair_here, pair_term}
use Rattle.lois_shortest_word.specs.Pairs.{IsPairIn, AreCommon, IsCommon, AddsCommon}

-- a comprehension whose item is no pair has none
pub none_common : (n m : ℕ) (g : List (List Lit)) (item s t : TermD) (before : CompsD) → ((a b : TermD) → item ≡ pair_of a b → ⊥) → AddsCommon n (comp m g item) s t before before
none_common n m g item s t before never = adds_nothing n _ _ _ _ before none
  where
    none : (c : List Atom) → length c ≡ n → (w : PointValue) → IsMadeOfOne (IsCommon s t c) (IsCompMember (comp m g item) c) w → ⊥
    none c k w (x, (e, ext, same), (alike, (p, q, pair, i, j))) =
        let found = pair_term item (c ++ e) p q (pair_to x (point item (c ++ e)) p q (same_sym (point item (c ++ e)) x same) pair) in
        never found.0 found.1 found.2

module _ (n m : ℕ) (g here there both guard : List (List Lit)) (a b s t : TermD) (is : HoldsWhereMember n m a s here) (is' : HoldsWhereMember n m b t there)
    (joint : (d : List Atom) → holds d both ≡ (holds d here && holds d there)) (met : (d : List Atom) → holds d guard ≡ (holds d g && holds d both)) where
  common_is : (c : List Atom) → length c ≡ n → (w : PointValue) → IsCompMember (comp m guard (pair_of a b)) c w ↔ IsMadeOfOne (IsCommon s t c) (IsCompMember (comp m g (pair_of a b)) c) w
  common_is c k w = (to, back)
    where
      to : IsCompMember (comp m guard (pair_of a b)) c w → IsMadeOfOne (IsCommon s t c) (IsCompMember (comp m g (pair_of a b)) c) w
      to (e, ext, same) =
          let d = c ++ e in
          let outer = (both_true (holds d g) (holds d both)).0 (sym (met d) ∙ ext.guard) in
          let inner = (both_true (holds d here) (holds d there)).0 (sym (joint d) ∙ outer.1) in (
            w,
            (e, record { count = ext.count; guard = outer.0 }, same),
            (same_refl w, (point a d, point b d, pair_to (point (pair_of a b) d) w (point a d) (point b d) same (pair_is a b d), (is c e k ext.count).0 inner.0, (is' c e k ext.count).0 inner.1)),
          )

      back : IsMadeOfOne (IsCommon s t c) (IsCompMember (comp m g (pair_of a b)) c) w → IsCompMember (comp m guard (pair_of a b)) c w
      back (x, (e, ext, same), (alike, (p, q, pair, i, j))) =
          let d = c ++ e in
          let v = point (pair_of a b) d in
          let parts = pair_here a b d p q (pair_to x v p q (same_sym v x same) pair) in
          let one : IsTrue (holds d here) = (is c e k ext.count).1 (in_same p (point a d) (point s c) parts.0 i) in
          let two : IsTrue (holds d there) = (is' c e k ext.count).1 (in_same q (point b d) (point t c) parts.1 j) in
          let inner : IsTrue (holds d both) = joint d ∙ (both_true (holds d here) (holds d there)).1 (one, two) in
          (e, record { count = ext.count; guard = met d ∙ (both_true (holds d g) (holds d both)).1 (ext.guard, inner) }, same_trans v x w same (same_sym w x alike))

  pub adds_common : (before after : CompsD) → IsPut (comp m guard (pair_of a b)) before after → (ConstraintFits (n + m) g → ConstraintFits (n + m) guard) →
      ((o : Bool) → AdmitsConstraint o g → AdmitsTerm o a → AdmitsTerm o b → AdmitsTerm o s → AdmitsTerm o t → AdmitsConstraint o guard) → AddsCommon n (comp m g (pair_of a b)) s t before after
  adds_common before after put fits admits = added_put n (comp m guard (pair_of a b)) _ _ _ _ before after put common_is
      (λ f. (f.0, fits f.1, f.2)) (λ o k. (admits o k.0.0 k.0.1.0 k.0.1.1.0 k.1.0 k.1.1, k.0.1)) (λ u. u)

pub are_common : (n : ℕ) (pairs made : CompsD) (s t : TermD) → ((c : List Atom) → length c ≡ n → (w : PointValue) → IsIn w (point (coll made) c) ↔ IsMadeOfOne (IsCommon s t c) (IsAmong pairs c) w) → AreCommon n (coll pairs) s t (coll made)
are_common n pairs made s t same c k w = (λ i. there ((same c k w).0 i), λ h. (same c k w).1 (w, (among_in pairs c w).1 h.0, (same_refl w, h.1)))
  where
    there : IsMadeOfOne (IsCommon s t c) (IsAmong pairs c) w → IsIn w (point (coll pairs) c) × IsPairIn s t c w
    there (x, i, (alike, (p, q, pair, j, k))) = (in_same x w (point (coll pairs) c) (same_sym w x alike) ((among_in pairs c x).0 i), (p, q, pair_to x w p q (same_sym w x alike) pair, j, k))
