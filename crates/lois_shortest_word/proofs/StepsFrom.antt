-- Steps that begin in a set, and steps of two automata side by side that begin at a pair.
use Rattle.std.proofs.Common.{◌≡◌, ℕ, ◌+◌, Bool, ◌&&◌, inl, inr, ◌↔◌, List, [], ◌∷◌, ◌++◌, length, sym, ◌∙◌}
use Rattle.std.proofs.lemmas.Bool.{false≢true}
use Rattle.std.specs.Bool.{IsTrue}
use Rattle.lois_base.specs.Atom.{Atom}
use Rattle.lois_base.specs.Data.{TermD, coll, comp, CompsD, no_comps, more}
use Rattle.lois_base.specs.Fits.{ConstraintFits, ItemsFit}
use Rattle.lois_base.specs.Truth.{holds}
use Rattle.lois_base.specs.Validity.{AdmitsConstraint, AdmitsTerm, AdmitsItems, ItemsHaveBoundedWidths}
use Rattle.lois_base.specs.Values.{PointValue, point, IsIn, IsSame}
use Rattle.lois_base.specs.declared.guards.Lit.{Lit}
use Rattle.lois_base.proofs.Connectives.{both_true}
use Rattle.lois_base.proofs.Members.{same_refl, same_sym, same_trans, in_same}
use Rattle.lois_algebra.specs.Gathered.{IsAmong, IsCompMember, IsPut}
use Rattle.lois_algebra.proofs.Among.{among_in}
use Rattle.lois_meaning.specs.Automata.{IsPair, IsTriple}
use Rattle.lois_meaning.proofs.Operations.{triple_both, pair_to}
use Rattle.lois_meaning.proofs.Tuples.{triple_to}
use Rattle.lois_automata.specs.Adding.{IsMadeOfOne}
use Rattle.lois_automata.specs.Built.{HoldsWhereMember}
use Rattle.lois_automata.specs.Projections.{pair_of, triple_of, HasStepIn, AreSideBySide}
use Rattle.lois_automata.proofs.Adding.{added_put, adds_nothing, added_members, one_among}
use Rattle.lois_automata.proofs.Written.{pair_here, pair_term, triple_is, triple_here, triple_term}
use Rattle.lois_shortest_word.specs.Pairs.{IsJointStep, AreJointSteps, IsStepFrom, AddsStepFrom, AddsStepsFrom, AddsJointSteps}
use Rattle.lois_shortest_word.proofs.Each.{adds_same}

-- a comprehension whose item is no triple has no steps
pub no_step_from : (n m : ℕ) (g : List (List Lit)) (item t : TermD) (before : CompsD) → ((p l q : TermD) → item ≡ triple_of p l q → ⊥) → AddsStepFrom n (comp m g item) t before before
no_step_from n m g item t before never = adds_nothing n _ _ _ _ before none
  where
    none : (c : List Atom) → length c ≡ n → (w : PointValue) → IsMadeOfOne (IsStepFrom t c) (IsCompMember (comp m g item) c) w → ⊥
    none c k w (x, (e, ext, same), (alike, (P, L, Q, triple, i))) =
        let found = triple_term item (c ++ e) P L Q (triple_to x (point item (c ++ e)) P L Q (same_sym (point item (c ++ e)) x same) triple) in
        never found.0 found.1 found.2 found.3

module _ (n m : ℕ) (g found : List (List Lit)) (p l q t : TermD) (is : HoldsWhereMember n m p t found) where
  -- where a step begins in the set
  begins_there : (c e : List Atom) → length c ≡ n → length e ≡ m → (x P L Q : PointValue) → IsSame (point (triple_of p l q) (c ++ e)) x → IsTrue (holds (c ++ e) g) → IsTriple x P L Q → IsIn P (point t c) → IsTrue (holds (c ++ e) found)
  begins_there c e k h x P L Q same guard triple i =
      let d = c ++ e in
      let s = triple_of p l q in
      let f = triple_here p l q d P L Q (triple_to x (point s d) P L Q (same_sym (point s d) x same) triple) in
      (is c e k h).1 (in_same P (point p d) (point t c) f.0 i)

  -- none does where the constraint has no cube
  pub none_begins : length found ≡ 0 → (before : CompsD) → AddsStepFrom n (comp m g (triple_of p l q)) t before before
  none_begins none before = adds_nothing n _ _ _ _ before never
    where
      empty : (r : List (List Lit)) (d : List Atom) → length r ≡ 0 → IsTrue (holds d r) → ⊥
      empty [] d e h = false≢true h
      empty (cube ∷ r) d e h = absurd (cc)

      never : (c : List Atom) → length c ≡ n → (w : PointValue) → IsMadeOfOne (IsStepFrom t c) (IsCompMember (comp m g (triple_of p l q)) c) w → ⊥
      never c k w (x, (e, ext, same), (alike, (P, L, Q, triple, i))) =
          empty found (c ++ e) none (begins_there c e k ext.count x P L Q same ext.guard triple i)

  module _ (guard : List (List Lit)) (met : (d : List Atom) → holds d guard ≡ (holds d g && holds d found)) where
    step_is : (c : List Atom) → length c ≡ n → (w : PointValue) → IsCompMember (comp m guard (triple_of p l q)) c w ↔ IsMadeOfOne (IsStepFrom t c) (IsCompMember (comp m g (triple_of p l q)) c) w
    step_is c k w = (there, back)
      where
        there : IsCompMember (comp m guard (triple_of p l q)) c w → IsMadeOfOne (IsStepFrom t c) (IsCompMember (comp m g (triple_of p l q)) c) w
        there (e, ext, same) =
            let d = c ++ e in
            let s = triple_of p l q in
            let both = (both_true (holds d g) (holds d found)).0 (sym (met d) ∙ ext.guard) in (
              w,
              (e, record { count = ext.count; guard = both.0 }, same),
              (same_refl w, (point p d, point l d, point q d, triple_to (point s d) w (point p d) (point l d) (point q d) same (triple_is p l q d), (is c e k ext.count).0 both.1)),
            )

        back : IsMadeOfOne (IsStepFrom t c) (IsCompMember (comp m g (triple_of p l q)) c) w → IsCompMember (comp m guard (triple_of p l q)) c w
        back (x, (e, ext, same), (alike, (P, L, Q, triple, i))) =
            let d = c ++ e in
            let inside = begins_there c e k ext.count x P L Q same ext.guard triple i in
            (e, record { count = ext.count; guard = met d ∙ (both_true (holds d g) (holds d found)).1 (ext.guard, inside) }, same_trans (point (triple_of p l q) d) x w same (same_sym w x alike))

    pub adds_step_from : (before after : CompsD) → IsPut (comp m guard (triple_of p l q)) before after → (ConstraintFits (n + m) g → ConstraintFits (n + m) guard) →
        ((o : Bool) → AdmitsConstraint o g → AdmitsTerm o p → AdmitsTerm o t → AdmitsConstraint o guard) → AddsStepFrom n (comp m g (triple_of p l q)) t before after
    adds_step_from before after put fits admits = added_put n (comp m guard (triple_of p l q)) _ _ _ _ before after put step_is
        (λ f. (f.0, fits f.1, f.2)) (λ o k. (admits o k.0.0 k.0.1.0 k.1, k.0.1)) (λ u. u)

-- ---- side by side
module _ (n : ℕ) (t : TermD) (ks made : CompsD) (added : AddsStepsFrom n t ks no_comps made) (c : List Atom) (k : length c ≡ n) (p l q : PointValue) where
  kept_step : HasStepIn (point (coll made) c) p l q → HasStepIn (point (coll ks) c) p l q
  kept_step (y, i, triple) = go ((added_members n _ _ _ _ made added c k y).0 i)
    where
      go : IsMadeOfOne (IsStepFrom t c) (IsAmong ks c) y → HasStepIn (point (coll ks) c) p l q
      go (x, j, (alike, rest)) = (x, (among_in ks c x).0 j, triple_to y x p l q alike triple)

  step_kept : IsIn p (point t c) → HasStepIn (point (coll ks) c) p l q → HasStepIn (point (coll made) c) p l q
  step_kept h (y, i, triple) = (y, (added_members n _ _ _ _ made added c k y).1 (y, (among_in ks c y).1 i, (same_refl y, (p, l, q, triple, h))), triple)

module _ (n m : ℕ) (g : List (List Lit)) (a b : TermD) (one other mine others joint : CompsD)
    (first : AddsStepsFrom n (coll (more (comp m g a) no_comps)) one no_comps mine) (second : AddsStepsFrom n (coll (more (comp m g b) no_comps)) other no_comps others) (beside : AreSideBySide n (coll mine) (coll others) (coll joint)) where
  abbrev here : TermD
  here = coll (more (comp m g (pair_of a b)) no_comps)

  pub joint_is : (c : List Atom) → length c ≡ n → (w : PointValue) → IsMadeOfOne (IsStepFrom here c) (IsAmong joint c) w ↔ IsMadeOfOne (IsJointStep (point (coll one) c) (point (coll other) c)) (IsCompMember (comp m g (pair_of a b)) c) w
  joint_is c k w = (there, back)
    where
      there : IsMadeOfOne (IsStepFrom here c) (IsAmong joint c) w → IsMadeOfOne (IsJointStep (point (coll one) c) (point (coll other) c)) (IsCompMember (comp m g (pair_of a b)) c) w
      there (x, j, (alike, (P, L, Q, triple, i))) = go ((beside c k x).0 ((among_in joint c x).0 j)) ((among_in (more (comp m g (pair_of a b)) no_comps) c P).1 i)
        where
          go : ((p l p' q q' s s' : PointValue) × HasStepIn (point (coll mine) c) p l p' × HasStepIn (point (coll others) c) q l q' × IsPair s p q × IsPair s' p' q' × IsTriple x s l s') →
              IsAmong (more (comp m g (pair_of a b)) no_comps) c P → IsMadeOfOne (IsJointStep (point (coll one) c) (point (coll other) c)) (IsCompMember (comp m g (pair_of a b)) c) w
          go (p, l, p', q, q', s, s', h, h', from, to, step) (inl (e, ext, same)) =
              let both = triple_both x P L Q s l s' triple step in (
                s,
                (e, ext, same_trans (point (pair_of a b) (c ++ e)) P s same both.0),
                (p, l, p', q, q', s', kept_step n (coll (more (comp m g a) no_comps)) one mine first c k p l p' h, kept_step n (coll (more (comp m g b) no_comps)) other others second c k q l q' h', from, to, triple_to x w s l s' (same_sym w x alike) step),
              )
          go found (inr none) = absurd none

      back : IsMadeOfOne (IsJointStep (point (coll one) c) (point (coll other) c)) (IsCompMember (comp m g (pair_of a b)) c) w → IsMadeOfOne (IsStepFrom here c) (IsAmong joint c) w
      back (s, (e, ext, same), (p, l, p', q, q', s', h, h', from, to, step)) =
          let d = c ++ e in
          let parts = pair_here a b d p q (pair_to s (point (pair_of a b) d) p q (same_sym (point (pair_of a b) d) s same) from) in
          let left : IsIn p (point (coll (more (comp m g a) no_comps)) c) = (among_in (more (comp m g a) no_comps) c p).0 (inl (e, ext, same_sym p (point a d) parts.0)) in
          let right : IsIn q (point (coll (more (comp m g b) no_comps)) c) = (among_in (more (comp m g b) no_comps) c q).0 (inl (e, ext, same_sym q (point b d) parts.1)) in
          let found : IsIn w (point (coll joint) c) = (beside c k w).1 (p, l, p', q, q', s, s', step_kept n (coll (more (comp m g a) no_comps)) one mine first c k p l p' left h, step_kept n (coll (more (comp m g b) no_comps)) other others second c k q l q' right h', from, to, step) in
          (w, (among_in joint c w).1 found, (same_refl w, (s, l, s', step, (among_in (more (comp m g (pair_of a b)) no_comps) c s).0 (inl (e, ext, same)))))

  pub adds_joint_steps : (before after : CompsD) → ItemsFit n joint → ((o : Bool) → AdmitsItems o mine → AdmitsItems o others → AdmitsItems o joint) → (ItemsHaveBoundedWidths mine → ItemsHaveBoundedWidths others → ItemsHaveBoundedWidths joint) →
      AddsStepsFrom n here joint before after → AddsJointSteps n (comp m g (pair_of a b)) one other before after
  adds_joint_steps before after fits admits usual added = adds_same n _ _ _ _ _ _ _ _ before after joint_is (λ f. fits)
      (λ o h. (admits o (first.operators o (h.1.0, ((h.0.0, h.0.1.0), tt)) tt) (second.operators o (h.1.1, ((h.0.0, h.0.1.1.0), tt)) tt), ((h.0.0, h.0.1), tt)))
      (λ h. usual (first.widths h.0 tt) (second.widths h.1 tt)) added

-- a comprehension whose item is no pair has none
pub no_joint_steps : (n m : ℕ) (g : List (List Lit)) (item : TermD) (one other before : CompsD) → ((a b : TermD) → item ≡ pair_of a b → ⊥) → AddsJointSteps n (comp m g item) one other before before
no_joint_steps n m g item one other before never = adds_nothing n _ _ _ _ before none
  where
    none : (c : List Atom) → length c ≡ n → (w : PointValue) → IsMadeOfOne (IsJointStep (point (coll one) c) (point (coll other) c)) (IsCompMember (comp m g item) c) w → ⊥
    none c k w (s, (e, ext, same), (p, l, p', q, q', s', h, h', from, to, step)) =
        let found = pair_term item (c ++ e) p q (pair_to s (point item (c ++ e)) p q (same_sym (point item (c ++ e)) s same) from) in
        never found.0 found.1 found.2

pub are_joint_steps : (n : ℕ) (pairs made : CompsD) (one other : TermD) → ((c : List Atom) → length c ≡ n → (w : PointValue) → IsIn w (point (coll made) c) ↔ IsMadeOfOne (IsJointStep (point one c) (point other c)) (IsAmong pairs c) w) → AreJointSteps n (coll pairs) one other (coll made)
are_joint_steps n pairs made one other same c k w =
    let turned = one_among (λ d. IsJointStep (point one d) (point other d)) pairs c w in
    (λ i. turned.0 ((same c k w).0 i), λ h. (same c k w).1 (turned.1 h))
