-- The sources of steps into a set, comprehension by comprehension, and layers of them.
use Rattle.std.proofs.Common.{◌≡◌, ℕ, suc, ◌+◌, inl, inr, Bool, ◌&&◌, ◌↔◌, List, [], ◌∷◌, ◌++◌, length, length-append, get_or, refl, sym, ap, ◌∙◌, subst, arith}
use Rattle.std.proofs.lemmas.Bool.{cases_lt}
use Rattle.std.proofs.lemmas.List.{get_or_append_left}
use Rattle.std.proofs.Math.Seq.{get_or-append_seam}
use Rattle.std.specs.Bool.{IsTrue}
use Rattle.lois_base.specs.Atom.{Atom}
use Rattle.lois_base.specs.Data.{TermD, coll, comp, CompsD}
use Rattle.lois_base.specs.Fits.{ConstraintFits}
use Rattle.lois_base.specs.Truth.{holds}
use Rattle.lois_base.specs.Validity.{AdmitsConstraint, AdmitsTerm}
use Rattle.lois_base.specs.Values.{PointValue, point, IsIn}
use Rattle.lois_base.specs.declared.guards.Lit.{Lit}
use Rattle.lois_base.proofs.Connectives.{both_true}
use Rattle.lois_base.proofs.Members.{same_refl, same_sym, in_same}
use Rattle.lois_algebra.specs.Gathered.{IsAmong, IsCompMember, IsPut}
use Rattle.lois_meaning.specs.Automata.{Automaton}
use Rattle.lois_meaning.proofs.Automata.{triple_same}
use Rattle.lois_meaning.proofs.Tuples.{triple_to}
use Rattle.lois_automata.specs.Adding.{IsMadeOfOne}
use Rattle.lois_automata.specs.Built.{HoldsWhereMember}
use Rattle.lois_automata.specs.Projections.{triple_of, automaton_at, HasStepIn}
use Rattle.lois_automata.proofs.Adding.{added_put, adds_nothing, one_among}
use Rattle.lois_automata.proofs.Written.{triple_is, triple_here, triple_term}
use Rattle.lois_shortest_word.specs.Layers.{AcceptsIn, IsLayer, AreLayers, AreSources, IsSourceTo, AddsSource}

-- a comprehension whose item is no triple has no steps
pub no_sources : (n m : ℕ) (g : List (List Lit)) (item t : TermD) (before : CompsD) → ((p l q : TermD) → item ≡ triple_of p l q → ⊥) → AddsSource n (comp m g item) t before before
no_sources n m g item t before never = adds_nothing n _ _ _ _ before none
  where
    none : (c : List Atom) → length c ≡ n → (w : PointValue) → IsMadeOfOne (IsSourceTo t c) (IsCompMember (comp m g item) c) w → ⊥
    none c k w (x, (e, ext, same), (L, Q, triple, i)) =
        let found = triple_term item (c ++ e) w L Q (triple_to x (point item (c ++ e)) w L Q (same_sym (point item (c ++ e)) x same) triple) in
        never found.0 found.1 found.2 found.3

module _ (n m : ℕ) (g found guard : List (List Lit)) (p l q t : TermD) (is : HoldsWhereMember n m q t found) (met : (d : List Atom) → holds d guard ≡ (holds d g && holds d found)) where
  source_is : (c : List Atom) → length c ≡ n → (w : PointValue) → IsCompMember (comp m guard p) c w ↔ IsMadeOfOne (IsSourceTo t c) (IsCompMember (comp m g (triple_of p l q)) c) w
  source_is c k w = (there, back)
    where
      there : IsCompMember (comp m guard p) c w → IsMadeOfOne (IsSourceTo t c) (IsCompMember (comp m g (triple_of p l q)) c) w
      there (e, ext, same) =
          let d = c ++ e in
          let s = triple_of p l q in
          let both = (both_true (holds d g) (holds d found)).0 (sym (met d) ∙ ext.guard) in (
            point s d,
            (e, record { count = ext.count; guard = both.0 }, same_refl (point s d)),
            (point l d, point q d, triple_same (point s d) (point p d) (point l d) (point q d) w (point l d) (point q d) same (same_refl (point l d)) (same_refl (point q d)) (triple_is p l q d), (is c e k ext.count).0 both.1),
          )

      back : IsMadeOfOne (IsSourceTo t c) (IsCompMember (comp m g (triple_of p l q)) c) w → IsCompMember (comp m guard p) c w
      back (x, (e, ext, same), (L, Q, triple, i)) =
          let d = c ++ e in
          let s = triple_of p l q in
          let f = triple_here p l q d w L Q (triple_to x (point s d) w L Q (same_sym (point s d) x same) triple) in
          let inside : IsTrue (holds d found) = (is c e k ext.count).1 (in_same Q (point q d) (point t c) f.2 i) in
          (e, record { count = ext.count; guard = met d ∙ (both_true (holds d g) (holds d found)).1 (ext.guard, inside) }, same_sym w (point p d) f.0)

  pub adds_source : (before after : CompsD) → IsPut (comp m guard p) before after → (ConstraintFits (n + m) g → ConstraintFits (n + m) guard) →
      ((o : Bool) → AdmitsConstraint o g → AdmitsTerm o q → AdmitsTerm o t → AdmitsConstraint o guard) → AddsSource n (comp m g (triple_of p l q)) t before after
  adds_source before after put fits admits = added_put n (comp m guard p) _ _ _ _ before after put source_is
      (λ f. (f.0, fits f.1, f.2.0)) (λ o k. (admits o k.0.0 k.0.1.1.1.0 k.1, k.0.1.0)) (λ u. u.2.0)

pub are_sources : (n : ℕ) (whole made : CompsD) (t : TermD) → ((c : List Atom) → length c ≡ n → (w : PointValue) → IsIn w (point (coll made) c) ↔ IsMadeOfOne (IsSourceTo t c) (IsAmong whole c) w) → AreSources n (coll whole) t (coll made)
are_sources n whole made t same c k w = (there, back)
  where
    there : IsIn w (point (coll made) c) → (l q : PointValue) × HasStepIn (point (coll whole) c) w l q × IsIn q (point t c)
    there i = turned ((one_among (IsSourceTo t) whole c w).0 ((same c k w).0 i))
      where
        turned : IsMadeOfOne (IsSourceTo t c) (λ x. IsIn x (point (coll whole) c)) w → (l q : PointValue) × HasStepIn (point (coll whole) c) w l q × IsIn q (point t c)
        turned (x, j, (l, q, triple, h)) = (l, q, (x, j, triple), h)

    back : ((l q : PointValue) × HasStepIn (point (coll whole) c) w l q × IsIn q (point t c)) → IsIn w (point (coll made) c)
    back (l, q, (x, j, triple), h) = (same c k w).1 ((one_among (IsSourceTo t) whole c w).1 (x, j, (l, q, triple, h)))

-- ---- layers
module _ (s l t i f : CompsD) (n : ℕ) where
  pub first_layer : IsLayer n (automaton_at s l t i f) 0 (coll f)
  first_layer c k p = (λ h. ([], refl, (p, h, same_refl p)), back)
    where
      back : AcceptsIn (automaton_at s l t i f c) 0 p → IsIn p (point (coll f) c)
      back ([], e, (q, j, same)) = in_same q p (point (coll f) c) (same_sym p q same) j
      back (w ∷ word, e, h) = absurd (omega arith)

  pub next_layer : (k : ℕ) (layer r : TermD) → IsLayer n (automaton_at s l t i f) k layer → AreSources n (coll t) layer r → IsLayer n (automaton_at s l t i f) (suc k) r
  next_layer k layer r is are c e p = (λ h. there ((are c e p).0 h), back)
    where
      there : ((x q : PointValue) × HasStepIn (point (coll t) c) p x q × IsIn q (point layer c)) → AcceptsIn (automaton_at s l t i f c) (suc k) p
      there (x, q, step, h) = longer ((is c e q).0 h)
        where
          longer : AcceptsIn (automaton_at s l t i f c) k q → AcceptsIn (automaton_at s l t i f c) (suc k) p
          longer (word, is_long, (z, j, reads)) = (x ∷ word, ap suc is_long, (z, j, (q, step, reads)))

      back : AcceptsIn (automaton_at s l t i f c) (suc k) p → IsIn p (point r c)
      back ([], is_long, h) = absurd (omega arith)
      back (x ∷ word, is_long, (z, j, (q, step, reads))) =
          let shorter : length word ≡ k = omega arith in
          (are c e p).1 (x, q, step, (is c e q).1 (word, shorter, (z, j, reads)))

pub no_layers : (n : ℕ) (m : List Atom → Automaton) → AreLayers n m []
no_layers n m k below d = absurd (omega arith)

pub layers_push : (n : ℕ) (m : List Atom → Automaton) (ts : List TermD) (t : TermD) → AreLayers n m ts → IsLayer n m (length ts) t → AreLayers n m (ts ++ t ∷ [])
layers_push n m ts t each last k below d = elim (cases_lt k (length ts)) [
  | inl less ↦ subst (IsLayer n m k) (sym (get_or_append_left ts (t ∷ []) d k less)) (each k less d)
  | inr more ↦
      let e : length ts ≡ k = omega (arith, below, length-append ts (t ∷ [])) in
      subst (λ j. IsLayer n m j (get_or (ts ++ t ∷ []) j d)) e (subst (IsLayer n m (length ts)) (sym (get_or-append_seam ts t [] d)) last)
]
