-- The second parts of pairs, comprehension by comprehension.
use Rattle.std.proofs.Common.{◌≡◌, ℕ, ◌↔◌, List, ◌++◌, length}
use Rattle.lois_base.specs.Atom.{Atom}
use Rattle.lois_base.specs.Data.{TermD, coll, comp, CompsD}
use Rattle.lois_base.specs.Values.{PointValue, point, IsIn}
use Rattle.lois_base.specs.declared.guards.Lit.{Lit}
use Rattle.lois_base.proofs.Members.{same_refl, same_sym}
use Rattle.lois_algebra.specs.Gathered.{IsAmong, IsCompMember, IsPut}
use Rattle.lois_meaning.proofs.Operations.{pair_to}
use Rattle.lois_automata.specs.Adding.{IsMadeOfOne}
use Rattle.lois_automata.specs.Projections.{AddsOfOne, pair_of}
use Rattle.lois_automata.specs.Reachability.{LeadsTo}
use Rattle.lois_automata.proofs.Adding.{added_put, adds_nothing, one_among}
use Rattle.lois_automata.proofs.Written.{pair_at, pair_here, pair_term}
use Rattle.lois_minimise.specs.Classes.{AreSeconds, IsSecondOf}

made_second : (m : ℕ) (g : List (List Lit)) (a b : TermD) (c : List Atom) (w : PointValue) → IsCompMember (comp m g b) c w ↔ IsMadeOfOne IsSecondOf (IsCompMember (comp m g (pair_of a b)) c) w
made_second m g a b c w = (there, back)
  where
    there : IsCompMember (comp m g b) c w → IsMadeOfOne IsSecondOf (IsCompMember (comp m g (pair_of a b)) c) w
    there (e, ext, s) =
        let d = c ++ e in
        (point (pair_of a b) d, (e, ext, same_refl (point (pair_of a b) d)), (point a d, pair_at a b d w s))

    back : IsMadeOfOne IsSecondOf (IsCompMember (comp m g (pair_of a b)) c) w → IsCompMember (comp m g b) c w
    back (x, (e, ext, s), (q, pair)) =
        let d = c ++ e in
        let t = pair_of a b in
        let f = pair_here a b d q w (pair_to x (point t d) q w (same_sym (point t d) x s) pair) in
        (e, ext, same_sym w (point b d) f.1)

pub adds_second : (n m : ℕ) (g : List (List Lit)) (a b : TermD) (before after : CompsD) → IsPut (comp m g b) before after → AddsOfOne IsSecondOf n (comp m g (pair_of a b)) before after
adds_second n m g a b before after put = added_put n (comp m g b) _ _ _ _ before after put (λ c _ w. made_second m g a b c w) (λ f. (f.0, f.1, f.2.1.0)) (λ o k. (k.0, k.1.1.0)) (λ u. u.2.1.0)

-- a comprehension whose item is no pair has none
pub no_second : (n m : ℕ) (g : List (List Lit)) (t : TermD) (before : CompsD) → ((a b : TermD) → t ≡ pair_of a b → ⊥) → AddsOfOne IsSecondOf n (comp m g t) before before
no_second n m g t before never = adds_nothing n _ _ _ _ before none
  where
    none : (c : List Atom) → length c ≡ n → (w : PointValue) → IsMadeOfOne IsSecondOf (IsCompMember (comp m g t) c) w → ⊥
    none c l w (x, (e, ext, s), (q, pair)) =
        let f = pair_term t (c ++ e) q w (pair_to x (point t (c ++ e)) q w (same_sym (point t (c ++ e)) x s) pair) in
        never f.0 f.1 f.2

pub are_seconds : (n : ℕ) (whole made : CompsD) → ((c : List Atom) → length c ≡ n → (w : PointValue) → IsIn w (point (coll made) c) ↔ IsMadeOfOne IsSecondOf (IsAmong whole c) w) → AreSeconds n (coll whole) (coll made)
are_seconds n whole made same c l w = (there, back)
  where
    there : IsIn w (point (coll made) c) → (q : PointValue) × LeadsTo (point (coll whole) c) q w
    there i = turned ((one_among (λ _. IsSecondOf) whole c w).0 ((same c l w).0 i))
      where
        turned : IsMadeOfOne IsSecondOf (λ x. IsIn x (point (coll whole) c)) w → (q : PointValue) × LeadsTo (point (coll whole) c) q w
        turned (x, k, (q, pair)) = (q, (x, k, pair))

    back : ((q : PointValue) × LeadsTo (point (coll whole) c) q w) → IsIn w (point (coll made) c)
    back (q, (x, k, pair)) = (same c l w).1 ((one_among (λ _. IsSecondOf) whole c w).1 (x, k, (q, pair)))
