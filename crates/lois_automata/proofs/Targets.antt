-- What moves lead to from the members of a set, comprehension by comprehension.
use Rattle.std.proofs.Common.{◌≡◌, ℕ, ◌+◌, Bool, ◌&&◌, ◌↔◌, List, [], ◌∷◌, ◌++◌, length, sym, ◌∙◌}
use Rattle.std.proofs.lemmas.Bool.{false≢true}
use Rattle.std.specs.Bool.{IsTrue}
use Rattle.lois_base.specs.Atom.{Atom}
use Rattle.lois_base.specs.Data.{TermD, coll, comp, CompsD}
use Rattle.lois_base.specs.Fits.{ConstraintFits}
use Rattle.lois_base.specs.Truth.{holds}
use Rattle.lois_base.specs.Validity.{AdmitsConstraint, AdmitsTerm}
use Rattle.lois_base.specs.Values.{PointValue, point, IsIn}
use Rattle.lois_base.specs.declared.guards.Lit.{Lit}
use Rattle.lois_base.proofs.Members.{same_refl, same_sym, in_same}
use Rattle.lois_algebra.specs.Gathered.{IsAmong, IsCompMember, IsPut}
use Rattle.lois_base.proofs.Connectives.{both_true}
use Rattle.lois_meaning.proofs.Operations.{pair_to}
use Rattle.lois_automata.specs.Adding.{IsMadeOfOne}
use Rattle.lois_automata.specs.Built.{HoldsWhereMember, AreTargets, IsLedFrom, AddsTarget}
use Rattle.lois_automata.specs.Projections.{pair_of}
use Rattle.lois_automata.specs.Reachability.{LeadsTo}
use Rattle.lois_automata.proofs.Adding.{added_put, adds_nothing, one_among}
use Rattle.lois_automata.proofs.Written.{pair_here, pair_at, pair_term}

-- a comprehension whose item is no pair has no moves
pub no_targets : (n m : ℕ) (g : List (List Lit)) (t s : TermD) (before : CompsD) → ((a b : TermD) → t ≡ pair_of a b → ⊥) → AddsTarget n (comp m g t) s before before
no_targets n m g t s before never = adds_nothing n _ _ _ _ before none
  where
    none : (c : List Atom) → length c ≡ n → (w : PointValue) → IsMadeOfOne (IsLedFrom s c) (IsCompMember (comp m g t) c) w → ⊥
    none c l w (x, (e, ext, same), (p, pair, i)) =
        let found = pair_term t (c ++ e) p w (pair_to x (point t (c ++ e)) p w (same_sym (point t (c ++ e)) x same) pair) in
        never found.0 found.1 found.2

module _ (n m : ℕ) (g found guard : List (List Lit)) (a b s : TermD) (is : HoldsWhereMember n m a s found) (met : (d : List Atom) → holds d guard ≡ (holds d g && holds d found)) where
  target_is : (c : List Atom) → length c ≡ n → (w : PointValue) → IsCompMember (comp m guard b) c w ↔ IsMadeOfOne (IsLedFrom s c) (IsCompMember (comp m g (pair_of a b)) c) w
  target_is c l w = (there, back)
    where
      there : IsCompMember (comp m guard b) c w → IsMadeOfOne (IsLedFrom s c) (IsCompMember (comp m g (pair_of a b)) c) w
      there (e, ext, same) =
          let d = c ++ e in
          let both = (both_true (holds d g) (holds d found)).0 (sym (met d) ∙ ext.guard) in (
            point (pair_of a b) d,
            (e, record { count = ext.count; guard = both.0 }, same_refl (point (pair_of a b) d)),
            (point a d, pair_at a b d w same, (is c e l ext.count).0 both.1),
          )

      back : IsMadeOfOne (IsLedFrom s c) (IsCompMember (comp m g (pair_of a b)) c) w → IsCompMember (comp m guard b) c w
      back (x, (e, ext, same), (p, pair, i)) =
          let d = c ++ e in
          let t = pair_of a b in
          let f = pair_here a b d p w (pair_to x (point t d) p w (same_sym (point t d) x same) pair) in
          let inside : IsTrue (holds d found) = (is c e l ext.count).1 (in_same p (point a d) (point s c) f.0 i) in
          (e, record { count = ext.count; guard = met d ∙ (both_true (holds d g) (holds d found)).1 (ext.guard, inside) }, same_sym w (point b d) f.1)

  pub adds_target : (before after : CompsD) → IsPut (comp m guard b) before after → (ConstraintFits (n + m) g → ConstraintFits (n + m) guard) →
      ((o : Bool) → AdmitsConstraint o g → AdmitsTerm o a → AdmitsTerm o s → AdmitsConstraint o guard) → AddsTarget n (comp m g (pair_of a b)) s before after
  adds_target before after put fits admits = added_put n (comp m guard b) _ _ _ _ before after put target_is
      (λ f. (f.0, fits f.1, f.2.1.0)) (λ o k. (admits o k.0.0 k.0.1.0 k.1, k.0.1.1.0)) (λ u. u.2.1.0)

-- moves whose first part is in the set nowhere lead to nothing
pub no_sources : (n m : ℕ) (g found : List (List Lit)) (a b s : TermD) → HoldsWhereMember n m a s found → length found ≡ 0 → (before : CompsD) → AddsTarget n (comp m g (pair_of a b)) s before before
no_sources n m g [] a b s is none before = adds_nothing n _ _ _ _ before never
  where
    never : (c : List Atom) → length c ≡ n → (w : PointValue) → IsMadeOfOne (IsLedFrom s c) (IsCompMember (comp m g (pair_of a b)) c) w → ⊥
    never c l w (x, (e, ext, same), (p, pair, i)) =
        let d = c ++ e in
        let t = pair_of a b in
        let f = pair_here a b d p w (pair_to x (point t d) p w (same_sym (point t d) x same) pair) in
        false≢true ((is c e l ext.count).1 (in_same p (point a d) (point s c) f.0 i))
no_sources n m g (cube ∷ found) a b s is none before = absurd (cc)

pub are_targets : (n : ℕ) (whole made : CompsD) (s : TermD) → ((c : List Atom) → length c ≡ n → (w : PointValue) → IsIn w (point (coll made) c) ↔ IsMadeOfOne (IsLedFrom s c) (IsAmong whole c) w) → AreTargets n (coll whole) s (coll made)
are_targets n whole made s same c l w = (there, back)
  where
    there : IsIn w (point (coll made) c) → (p : PointValue) × IsIn p (point s c) × LeadsTo (point (coll whole) c) p w
    there i =
        let h = (one_among (IsLedFrom s) whole c w).0 ((same c l w).0 i) in
        turned h
      where
        turned : IsMadeOfOne (IsLedFrom s c) (λ x. IsIn x (point (coll whole) c)) w → (p : PointValue) × IsIn p (point s c) × LeadsTo (point (coll whole) c) p w
        turned (x, k, (p, pair, j)) = (p, j, (x, k, pair))

    back : ((p : PointValue) × IsIn p (point s c) × LeadsTo (point (coll whole) c) p w) → IsIn w (point (coll made) c)
    back (p, j, (x, k, pair)) = (same c l w).1 ((one_among (IsLedFrom s) whole c w).1 (x, k, (p, pair, j)))
