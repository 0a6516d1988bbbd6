-- What shapes make of triples, comprehension by comprehension.
use Rattle.std.proofs.Common.{◌≡◌, ℕ, Bool, ◌↔◌, List, ◌++◌, length, arith}
use Rattle.lois_base.specs.Atom.{Atom}
use Rattle.lois_base.specs.Data.{TermD, coll, comp, CompsD}
use Rattle.lois_base.specs.Fits.{Fits}
use Rattle.lois_base.specs.Validity.{AdmitsTerm, HasBoundedWidths}
use Rattle.lois_base.specs.Values.{PointValue, point, IsSame, IsIn}
use Rattle.lois_base.specs.declared.guards.Lit.{Lit}
use Rattle.lois_base.proofs.Members.{same_refl, same_sym, same_trans, in_same}
use Rattle.lois_algebra.specs.Gathered.{IsAmong, IsCompMember, IsPut}
use Rattle.lois_meaning.specs.Automata.{IsTriple}
use Rattle.lois_automata.specs.Adding.{IsMadeOfOne}
use Rattle.lois_automata.specs.Projections.{IsProjected, HasStepIn, AreProjected, AreNonTriples, AddsOfOne, IsProjectionOf, IsNonTriple, pair_of, triple_of, projected_term}
use Rattle.lois_automata.specs.declared.projections.Projection.{Projection}
use Rattle.lois_automata.specs.declared.projections.Projection.TheVariants.{Source, Label, Target, Outgoing, Move, Back, Keyed}
use Rattle.lois_automata.proofs.Adding.{added_put, adds_nothing, one_among}
use Rattle.lois_automata.proofs.Written.{pair_is, triple_is, triple_here, triple_term}
use Rattle.lois_meaning.proofs.Operations.{pair_same, pair_to}
use Rattle.lois_meaning.proofs.Tuples.{triple_to}

shaped_is : (shape : Projection) (p l q : TermD) (d : List Atom) (w : PointValue) → IsSame (point (projected_term shape p l q) d) w → IsProjected shape w (point p d) (point l d) (point q d)
shaped_is Source p l q d w s = same_sym (point p d) w s
shaped_is Label p l q d w s = same_sym (point l d) w s
shaped_is Target p l q d w s = same_sym (point q d) w s
shaped_is Outgoing p l q d w s = pair_to (point (pair_of p l) d) w (point p d) (point l d) s (pair_is p l d)
shaped_is Move p l q d w s = pair_to (point (pair_of p q) d) w (point p d) (point q d) s (pair_is p q d)
shaped_is Back p l q d w s = pair_to (point (pair_of q p) d) w (point q d) (point p d) s (pair_is q p d)
shaped_is Keyed p l q d w s = (point (pair_of p l) d, pair_is p l d, pair_to (point (pair_of (pair_of p l) q) d) w (point (pair_of p l) d) (point q d) s (pair_is (pair_of p l) q d))

is_shaped : (shape : Projection) (p l q : TermD) (d : List Atom) (w P L Q : PointValue) → IsSame P (point p d) → IsSame L (point l d) → IsSame Q (point q d) → IsProjected shape w P L Q → IsSame (point (projected_term shape p l q) d) w
is_shaped Source p l q d w P L Q a b e h = same_sym w (point p d) (same_trans w P (point p d) h a)
is_shaped Label p l q d w P L Q a b e h = same_sym w (point l d) (same_trans w L (point l d) h b)
is_shaped Target p l q d w P L Q a b e h = same_sym w (point q d) (same_trans w Q (point q d) h e)
is_shaped Outgoing p l q d w P L Q a b e h = pair_same (point (pair_of p l) d) w (point p d) (point l d) P L (same_sym P (point p d) a) (same_sym L (point l d) b) (pair_is p l d) h
is_shaped Move p l q d w P L Q a b e h = pair_same (point (pair_of p q) d) w (point p d) (point q d) P Q (same_sym P (point p d) a) (same_sym Q (point q d) e) (pair_is p q d) h
is_shaped Back p l q d w P L Q a b e h = pair_same (point (pair_of q p) d) w (point q d) (point p d) Q P (same_sym Q (point q d) e) (same_sym P (point p d) a) (pair_is q p d) h
is_shaped Keyed p l q d w P L Q a b e (k, h, i) =
    let key : IsSame (point (pair_of p l) d) k = pair_same (point (pair_of p l) d) k (point p d) (point l d) P L (same_sym P (point p d) a) (same_sym L (point l d) b) (pair_is p l d) h in
    pair_same (point (pair_of (pair_of p l) q) d) w (point (pair_of p l) d) (point q d) k Q key (same_sym Q (point q d) e) (pair_is (pair_of p l) q d) i

made_shaped : (shape : Projection) (m : ℕ) (g : List (List Lit)) (p l q : TermD) (c : List Atom) (w : PointValue) → IsCompMember (comp m g (projected_term shape p l q)) c w ↔ IsMadeOfOne (IsProjectionOf shape) (IsCompMember (comp m g (triple_of p l q)) c) w
made_shaped shape m g p l q c w = (there, back)
  where
    there : IsCompMember (comp m g (projected_term shape p l q)) c w → IsMadeOfOne (IsProjectionOf shape) (IsCompMember (comp m g (triple_of p l q)) c) w
    there (e, ext, s) =
        let d = c ++ e in (
          point (triple_of p l q) d,
          (e, ext, same_refl (point (triple_of p l q) d)),
          (point p d, point l d, point q d, triple_is p l q d, shaped_is shape p l q d w s),
        )

    back : IsMadeOfOne (IsProjectionOf shape) (IsCompMember (comp m g (triple_of p l q)) c) w → IsCompMember (comp m g (projected_term shape p l q)) c w
    back (x, (e, ext, s), (P, L, Q, t, h)) =
        let d = c ++ e in
        let parts = triple_here p l q d P L Q (triple_to x (point (triple_of p l q) d) P L Q (same_sym (point (triple_of p l q) d) x s) t) in
        (e, ext, is_shaped shape p l q d w P L Q parts.0 parts.1 parts.2 h)

shaped_fits : (shape : Projection) (n : ℕ) (p l q : TermD) → Fits n (triple_of p l q) → Fits n (projected_term shape p l q)
shaped_fits Source n p l q h = h.0
shaped_fits Label n p l q h = h.1.0
shaped_fits Target n p l q h = h.1.1.0
shaped_fits Outgoing n p l q h = (h.0, (h.1.0, tt))
shaped_fits Move n p l q h = (h.0, (h.1.1.0, tt))
shaped_fits Back n p l q h = (h.1.1.0, (h.0, tt))
shaped_fits Keyed n p l q h = ((h.0, (h.1.0, tt)), (h.1.1.0, tt))

shaped_admits : (shape : Projection) (o : Bool) (p l q : TermD) → AdmitsTerm o (triple_of p l q) → AdmitsTerm o (projected_term shape p l q)
shaped_admits Source o p l q h = h.0
shaped_admits Label o p l q h = h.1.0
shaped_admits Target o p l q h = h.1.1.0
shaped_admits Outgoing o p l q h = (h.0, (h.1.0, tt))
shaped_admits Move o p l q h = (h.0, (h.1.1.0, tt))
shaped_admits Back o p l q h = (h.1.1.0, (h.0, tt))
shaped_admits Keyed o p l q h = ((h.0, (h.1.0, tt)), (h.1.1.0, tt))

shaped_usual : (shape : Projection) (p l q : TermD) → HasBoundedWidths (triple_of p l q) → HasBoundedWidths (projected_term shape p l q)
shaped_usual Source p l q h = h.2.0
shaped_usual Label p l q h = h.2.1.0
shaped_usual Target p l q h = h.2.1.1.0
shaped_usual Outgoing p l q h = (omega arith, omega arith, (h.2.0, (h.2.1.0, tt)))
shaped_usual Move p l q h = (omega arith, omega arith, (h.2.0, (h.2.1.1.0, tt)))
shaped_usual Back p l q h = (omega arith, omega arith, (h.2.1.1.0, (h.2.0, tt)))
shaped_usual Keyed p l q h = (omega arith, omega arith, ((omega arith, omega arith, (h.2.0, (h.2.1.0, tt))), (h.2.1.1.0, tt)))

pub adds_shaped : (shape : Projection) (n m : ℕ) (g : List (List Lit)) (p l q : TermD) (before after : CompsD) → IsPut (comp m g (projected_term shape p l q)) before after → AddsOfOne (IsProjectionOf shape) n (comp m g (triple_of p l q)) before after
adds_shaped shape n m g p l q before after put = added_put n (comp m g (projected_term shape p l q)) _ _ _ _ before after put (λ c _ w. made_shaped shape m g p l q c w)
    (λ f. (f.0, f.1, shaped_fits shape _ p l q f.2)) (λ o a. (a.0, shaped_admits shape o p l q a.1)) (shaped_usual shape p l q)

-- a comprehension whose item is no triple has none
pub shapes_nothing : (shape : Projection) (n m : ℕ) (g : List (List Lit)) (t : TermD) (before : CompsD) → ((p l q : TermD) → t ≡ triple_of p l q → ⊥) → AddsOfOne (IsProjectionOf shape) n (comp m g t) before before
shapes_nothing shape n m g t before never = adds_nothing n _ _ _ _ before none
  where
    none : (c : List Atom) → length c ≡ n → (w : PointValue) → IsMadeOfOne (IsProjectionOf shape) (IsCompMember (comp m g t) c) w → ⊥
    none c l w (x, (e, ext, s), (P, L, Q, triple, h)) =
        let f = triple_term t (c ++ e) P L Q (triple_to x (point t (c ++ e)) P L Q (same_sym (point t (c ++ e)) x s) triple) in
        never f.0 f.1 f.2 f.3

pub are_shaped : (shape : Projection) (n : ℕ) (whole made : CompsD) → ((c : List Atom) → length c ≡ n → (w : PointValue) → IsIn w (point (coll made) c) ↔ IsMadeOfOne (IsProjectionOf shape) (IsAmong whole c) w) → AreProjected n shape (coll whole) (coll made)
are_shaped shape n whole made same c l w = (there, back)
  where
    there : IsIn w (point (coll made) c) → (p l q : PointValue) × HasStepIn (point (coll whole) c) p l q × IsProjected shape w p l q
    there i = turned ((one_among (λ _. IsProjectionOf shape) whole c w).0 ((same c l w).0 i))
      where
        turned : IsMadeOfOne (IsProjectionOf shape) (λ x. IsIn x (point (coll whole) c)) w → (p l q : PointValue) × HasStepIn (point (coll whole) c) p l q × IsProjected shape w p l q
        turned (x, k, (p, l, q, t, h)) = (p, l, q, (x, k, t), h)

    back : ((p l q : PointValue) × HasStepIn (point (coll whole) c) p l q × IsProjected shape w p l q) → IsIn w (point (coll made) c)
    back (p, l', q, (x, k, t), h) = (same c l w).1 ((one_among (λ _. IsProjectionOf shape) whole c w).1 (x, k, (p, l', q, t, h)))

-- ---- the steps that are no triples
pub adds_misfit : (n : ℕ) (m : ℕ) (g : List (List Lit)) (t : TermD) (before after : CompsD) → ((p l q : TermD) → t ≡ triple_of p l q → ⊥) → IsPut (comp m g t) before after → AddsOfOne IsNonTriple n (comp m g t) before after
adds_misfit n m g t before after never put = added_put n (comp m g t) _ _ _ _ before after put (λ c _ w. (there c w, back c w)) (λ f. f) (λ o a. a) (λ u. u)
  where
    no_triple : (d : List Atom) (P L Q : PointValue) → IsTriple (point t d) P L Q → ⊥
    no_triple d P L Q h =
        let f = triple_term t d P L Q h in
        never f.0 f.1 f.2 f.3

    there : (c : List Atom) (w : PointValue) → IsCompMember (comp m g t) c w → IsMadeOfOne IsNonTriple (IsCompMember (comp m g t) c) w
    there c w (e, ext, s) = (point t (c ++ e), (e, ext, same_refl (point t (c ++ e))), (s, no_triple (c ++ e)))

    back : (c : List Atom) (w : PointValue) → IsMadeOfOne IsNonTriple (IsCompMember (comp m g t) c) w → IsCompMember (comp m g t) c w
    back c w (x, (e, ext, s), (s', none)) = (e, ext, same_trans (point t (c ++ e)) x w s s')

pub fits_well : (n : ℕ) (m : ℕ) (g : List (List Lit)) (p l q : TermD) (before : CompsD) → AddsOfOne IsNonTriple n (comp m g (triple_of p l q)) before before
fits_well n m g p l q before = adds_nothing n _ _ _ _ before none
  where
    none : (c : List Atom) → length c ≡ n → (w : PointValue) → IsMadeOfOne IsNonTriple (IsCompMember (comp m g (triple_of p l q)) c) w → ⊥
    none c k w (x, (e, ext, s), (s', never)) =
        let d = c ++ e in
        never (point p d) (point l d) (point q d) (triple_to (point (triple_of p l q) d) x (point p d) (point l d) (point q d) s (triple_is p l q d))

pub are_misfits : (n : ℕ) (whole made : CompsD) → ((c : List Atom) → length c ≡ n → (w : PointValue) → IsIn w (point (coll made) c) ↔ IsMadeOfOne IsNonTriple (IsAmong whole c) w) → AreNonTriples n (coll whole) (coll made)
are_misfits n whole made same c l w = (there, back)
  where
    there : IsIn w (point (coll made) c) → IsIn w (point (coll whole) c) × ((p l q : PointValue) → IsTriple w p l q → ⊥)
    there i = turned ((one_among (λ _. IsNonTriple) whole c w).0 ((same c l w).0 i))
      where
        turned : IsMadeOfOne IsNonTriple (λ x. IsIn x (point (coll whole) c)) w → IsIn w (point (coll whole) c) × ((p l q : PointValue) → IsTriple w p l q → ⊥)
        turned (x, k, (s, never)) = (in_same x w (point (coll whole) c) s k, λ p l q t. never p l q (triple_to w x p l q (same_sym x w s) t))

    back : IsIn w (point (coll whole) c) × ((p l q : PointValue) → IsTriple w p l q → ⊥) → IsIn w (point (coll made) c)
    back (k, never) = (same c l w).1 ((one_among (λ _. IsNonTriple) whole c w).1 (w, k, (same_refl w, never)))
