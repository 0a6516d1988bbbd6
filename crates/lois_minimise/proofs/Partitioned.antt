-- A set partitioned into those of its members that are in another set, and those that are not.
use Rattle.std.proofs.Common.{◌≡◌, ℕ, ◌+◌, Bool, true, false, not, ◌&&◌, ◌⊎◌, inl, inr, ◌↔◌, List, ◌++◌, length, refl, sym, ap, ◌∙◌}
use Rattle.std.specs.Bool.{IsTrue}
use Rattle.lois_base.specs.Atom.{Atom}
use Rattle.lois_base.specs.Data.{TermD, coll, CompD, comp, CompsD}
use Rattle.lois_base.specs.Fits.{ConstraintFits}
use Rattle.lois_base.specs.Truth.{holds}
use Rattle.lois_base.specs.Validity.{AdmitsConstraint, AdmitsTerm}
use Rattle.lois_base.specs.Values.{PointValue, point, IsIn, IsSame, IsExtension}
use Rattle.lois_base.specs.declared.guards.Lit.{Lit}
use Rattle.lois_base.proofs.Connectives.{both_true, not_true}
use Rattle.lois_base.proofs.Members.{same_refl, same_sym, same_trans, in_same}
use Rattle.lois_algebra.specs.Gathered.{IsAmong, IsCompMember, IsPut}
use Rattle.lois_algebra.proofs.Among.{among_in}
use Rattle.lois_automata.specs.Adding.{IsMadeOfOne}
use Rattle.lois_automata.specs.Built.{HoldsWhereMember}
use Rattle.lois_automata.proofs.Adding.{added_put, one_among}
use Rattle.lois_minimise.specs.Classes.{IsInFirstPart, IsInSecondPart, AddsPartition, IsPartition}

-- one comprehension under a guard that holds where its own does and Q says so of its item
module _ (n m : ℕ) (g guard : List (List Lit)) (told : List Atom → Bool) (t : TermD) (Q : List Atom → PointValue → Type 0) (Q_same : (c : List Atom) (x y : PointValue) → IsSame x y → Q c x → Q c y)
    (is : (c e : List Atom) → length c ≡ n → length e ≡ m → IsTrue (told (c ++ e)) ↔ Q c (point t (c ++ e))) (met : (d : List Atom) → holds d guard ≡ (holds d g && told d)) where
  part_is : (c : List Atom) → length c ≡ n → (w : PointValue) → IsCompMember (comp m guard t) c w ↔ IsMadeOfOne (λ x w. IsSame x w × Q c x) (IsCompMember (comp m g t) c) w
  part_is c l w = (there, back)
    where
      there : IsCompMember (comp m guard t) c w → IsMadeOfOne (λ x w. IsSame x w × Q c x) (IsCompMember (comp m g t) c) w
      there (e, ext, s) =
          let d = c ++ e in
          let both = (both_true (holds d g) (told d)).0 (sym (met d) ∙ ext.guard) in
          (point t d, (e, record { count = ext.count; guard = both.0 }, same_refl (point t d)), (s, (is c e l ext.count).0 both.1))

      back : IsMadeOfOne (λ x w. IsSame x w × Q c x) (IsCompMember (comp m g t) c) w → IsCompMember (comp m guard t) c w
      back (x, (e, ext, s), (s', q)) =
          let d = c ++ e in
          let found : IsTrue (told d) = (is c e l ext.count).1 (Q_same c x (point t d) (same_sym (point t d) x s) q) in
          (e, record { count = ext.count; guard = met d ∙ (both_true (holds d g) (told d)).1 (ext.guard, found) }, same_trans (point t d) x w s s')

module _ (n m : ℕ) (g found here there : List (List Lit)) (t s : TermD) (is : HoldsWhereMember n m t s found) (met : (d : List Atom) → holds d here ≡ (holds d g && holds d found)) (unmet : (d : List Atom) → holds d there ≡ (holds d g && not (holds d found))) where
  inside_same : (c : List Atom) (x y : PointValue) → IsSame x y → IsIn x (point s c) → IsIn y (point s c)
  inside_same c x y h i = in_same x y (point s c) h i

  outside_same : (c : List Atom) (x y : PointValue) → IsSame x y → (IsIn x (point s c) → ⊥) → IsIn y (point s c) → ⊥
  outside_same c x y h never i = never (in_same y x (point s c) (same_sym x y h) i)

  isnt_in : (c e : List Atom) → length c ≡ n → length e ≡ m → IsTrue (not (holds (c ++ e) found)) ↔ (IsIn (point t (c ++ e)) (point s c) → ⊥)
  isnt_in c e l k =
      let d = c ++ e in
      let other = not_true (holds d found) in (
        λ h i. other.0 h ((is c e l k).1 i),
        λ never. other.1 (λ h. never ((is c e l k).0 h)),
      )

  pub adds_share : (before after others_before others_after : CompsD) → IsPut (comp m here t) before after → IsPut (comp m there t) others_before others_after → (ConstraintFits (n + m) g → ConstraintFits (n + m) here) → (ConstraintFits (n + m) g → ConstraintFits (n + m) there) →
      ((o : Bool) → AdmitsConstraint o g → AdmitsTerm o t → AdmitsTerm o s → AdmitsConstraint o here × AdmitsConstraint o there) → AddsPartition n (comp m g t) s before after others_before others_after
  adds_share before after others_before others_after put put' fits fits' admits = record {
    inside = added_put n (comp m here t) _ _ _ _ before after put (part_is n m g here (λ d. holds d found) t (λ c x. IsIn x (point s c)) inside_same is met)
        (λ f. (f.0, fits f.1, f.2)) (λ o a. ((admits o a.0.0 a.0.1 a.1).0, a.0.1)) (λ u. u);
    outside = added_put n (comp m there t) _ _ _ _ others_before others_after put' (part_is n m g there (λ d. not (holds d found)) t (λ c x. IsIn x (point s c) → ⊥) outside_same isnt_in unmet)
        (λ f. (f.0, fits' f.1, f.2)) (λ o a. ((admits o a.0.0 a.0.1 a.1).1, a.0.1)) (λ u. u);
    each = λ c l w h. sorted c w h.0 h.1 h.2 (holds (c ++ h.0) found) refl;
  }
    where
      sorted : (c : List Atom) (w : PointValue) (e : List Atom) → IsExtension c m g e → IsSame (point t (c ++ e)) w → (b : Bool) → holds (c ++ e) found ≡ b → IsAmong after c w ⊎ IsAmong others_after c w
      sorted c w e ext h true eq =
          let d = c ++ e in
          inl ((put.members c w).1 (inr (e, record { count = ext.count; guard = met d ∙ (both_true (holds d g) (holds d found)).1 (ext.guard, eq) }, h)))
      sorted c w e ext h false eq =
          let d = c ++ e in
          let other : IsTrue (not (holds d found)) = ap not eq in
          inr ((put'.members c w).1 (inr (e, record { count = ext.count; guard = unmet d ∙ (both_true (holds d g) (not (holds d found))).1 (ext.guard, other) }, h)))

pub are_shared : (n : ℕ) (ks inside outside : CompsD) (t : TermD) → ((c : List Atom) → length c ≡ n → (w : PointValue) → IsIn w (point (coll inside) c) ↔ IsMadeOfOne (IsInFirstPart t c) (IsAmong ks c) w) →
    ((c : List Atom) → length c ≡ n → (w : PointValue) → IsIn w (point (coll outside) c) ↔ IsMadeOfOne (IsInSecondPart t c) (IsAmong ks c) w) → ((c : List Atom) → length c ≡ n → (w : PointValue) → IsAmong ks c w → IsAmong inside c w ⊎ IsAmong outside c w) →
    (c : List Atom) → length c ≡ n → IsPartition (point (coll ks) c) (point t c) (point (coll inside) c) (point (coll outside) c)
are_shared n ks inside outside t one other each c l = record {
  inner = λ w. (
    λ i. inner_of w ((one_among (IsInFirstPart t) ks c w).0 ((one c l w).0 i)),
    λ h. (one c l w).1 ((one_among (IsInFirstPart t) ks c w).1 (w, h.0, (same_refl w, h.1))),
  );
  outer = λ w. (
    λ i. outer_of w ((one_among (IsInSecondPart t) ks c w).0 ((other c l w).0 i)),
    λ h. (other c l w).1 ((one_among (IsInSecondPart t) ks c w).1 (w, h.0, (same_refl w, h.1))),
  );
  each = λ w i. elim (each c l w ((among_in ks c w).1 i)) [
    | inl h ↦ inl ((among_in inside c w).0 h)
    | inr h ↦ inr ((among_in outside c w).0 h)
  ];
}
  where
    inner_of : (w : PointValue) → IsMadeOfOne (IsInFirstPart t c) (λ x. IsIn x (point (coll ks) c)) w → IsIn w (point (coll ks) c) × IsIn w (point t c)
    inner_of w (x, i, (s, j)) = (in_same x w (point (coll ks) c) s i, in_same x w (point t c) s j)

    outer_of : (w : PointValue) → IsMadeOfOne (IsInSecondPart t c) (λ x. IsIn x (point (coll ks) c)) w → IsIn w (point (coll ks) c) × (IsIn w (point t c) → ⊥)
    outer_of w (x, i, (s, never)) = (in_same x w (point (coll ks) c) s i, λ j. never (in_same w x (point t c) (same_sym x w s) j))

-- what was in one of the two lists still is
pub still_shared : (n : ℕ) (k : CompD) (t : TermD) (before after others_before others_after : CompsD) → AddsPartition n k t before after others_before others_after →
    (c : List Atom) (w : PointValue) → length c ≡ n → IsAmong before c w ⊎ IsAmong others_before c w → IsAmong after c w ⊎ IsAmong others_after c w
still_shared n k t before after others_before others_after add c w l h = elim h [
  | inl i ↦ inl ((add.inside.members c l w).1 (inl i))
  | inr i ↦ inr ((add.outside.members c l w).1 (inl i))
]
