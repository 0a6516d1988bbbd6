-- Steps to the sink, comprehension by comprehension.
use Rattle.std.proofs.Common.{◌≡◌, ℕ, ◌+◌, Bool, true, false, not, ◌&&◌, ◌⊎◌, inl, inr, ◌↔◌, List, ◌++◌, length, refl, sym, subst, ◌∙◌, arith}
use Rattle.std.specs.Bool.{IsTrue}
use Rattle.std.proofs.lemmas.Bool.{false≢true}
use Rattle.lois_base.specs.Atom.{Atom}
use Rattle.lois_base.specs.Data.{TermD, coll, CompD, comp, CompsD, no_comps, more}
use Rattle.lois_base.specs.Fits.{ConstraintFits, Fits, CompFits, ItemsFit}
use Rattle.lois_base.specs.Truth.{holds}
use Rattle.lois_base.specs.Validity.{AdmitsConstraint, AdmitsTerm, AdmitsComp, AdmitsItems, HasBoundedWidths, CompHasBoundedWidths, ItemsHaveBoundedWidths}
use Rattle.lois_base.specs.Values.{PointValue, point, IsIn}
use Rattle.lois_base.specs.declared.guards.Lit.{Lit}
use Rattle.lois_base.proofs.Connectives.{both_true, not_true}
use Rattle.lois_base.proofs.Members.{same_refl, same_sym, in_same}
use Rattle.lois_algebra.specs.Gathered.{IsAmong, IsCompMember, IsPut}
use Rattle.lois_algebra.proofs.Among.{among_in}
use Rattle.lois_terms.specs.Shifted.{IsShifted}
use Rattle.lois_meaning.specs.Automata.{IsPair, IsTriple}
use Rattle.lois_meaning.proofs.Automata.{triple_same}
use Rattle.lois_meaning.proofs.Operations.{pair_both, pair_to}
use Rattle.lois_meaning.proofs.Tuples.{triple_to, triples_same}
use Rattle.lois_automata.specs.Adding.{IsMadeOfOne}
use Rattle.lois_automata.specs.Built.{HoldsWhereMember}
use Rattle.lois_automata.specs.Projections.{pair_of, triple_of}
use Rattle.lois_automata.proofs.Adding.{AddsSoFar, adds_begin, adds_more, adds_end, adds_nothing, added_put, added_members, one_split, one_none, one_among}
use Rattle.lois_automata.proofs.Members.{raised_same}
use Rattle.lois_automata.proofs.Written.{pair_is, pair_term, triple_is}
use Rattle.lois_equal.specs.Completed.{LeadsToSink, IsProvided, AddsSinkSteps, LeadToSink}

-- a comprehension of pairs under a guard that holds where its own does and the pair isn't in the set, with the steps in their place
module _ (n m : ℕ) (g found missing guard : List (List Lit)) (p l target there sink : TermD) (is : HoldsWhereMember n m (pair_of p l) there found) (isnt : (d : List Atom) → holds d missing ≡ not (holds d found))
    (met : (d : List Atom) → holds d guard ≡ (holds d g && holds d missing)) (raised : IsShifted n m sink target) where
  leads_out : (c e : List Atom) → length c ≡ n → length e ≡ m → IsTriple (point (triple_of p l target) (c ++ e)) (point p (c ++ e)) (point l (c ++ e)) (point sink c)
  leads_out c e k k' =
      let d = c ++ e in
      triple_same (point (triple_of p l target) d) (point p d) (point l d) (point target d) (point p d) (point l d) (point sink c) (same_refl (point p d)) (same_refl (point l d)) (raised_same n m sink target raised c e k k') (triple_is p l target d)

  isnt_in : (c e : List Atom) → length c ≡ n → length e ≡ m → IsTrue (holds (c ++ e) missing) ↔ (IsIn (point (pair_of p l) (c ++ e)) (point there c) → ⊥)
  isnt_in c e k k' =
      let d = c ++ e in
      let other = not_true (holds d found) in (
        λ h i. other.0 (sym (isnt d) ∙ h) ((is c e k k').1 i),
        λ never. isnt d ∙ other.1 (λ h. never ((is c e k k').0 h)),
      )

  led_is : (c : List Atom) → length c ≡ n → (w : PointValue) → IsCompMember (comp m guard (triple_of p l target)) c w ↔ IsMadeOfOne (LeadsToSink there sink c) (IsCompMember (comp m g (pair_of p l)) c) w
  led_is c k w = (forth, back)
    where
      forth : IsCompMember (comp m guard (triple_of p l target)) c w → IsMadeOfOne (LeadsToSink there sink c) (IsCompMember (comp m g (pair_of p l)) c) w
      forth (e, ext, s) =
          let d = c ++ e in
          let both = (both_true (holds d g) (holds d missing)).0 (sym (met d) ∙ ext.guard) in (
            point (pair_of p l) d,
            (e, record { count = ext.count; guard = both.0 }, same_refl (point (pair_of p l) d)),
            (
              (isnt_in c e k ext.count).0 both.1,
              (point p d, point l d, pair_is p l d, triple_to (point (triple_of p l target) d) w (point p d) (point l d) (point sink c) s (leads_out c e k ext.count)),
            ),
          )

      back : IsMadeOfOne (LeadsToSink there sink c) (IsCompMember (comp m g (pair_of p l)) c) w → IsCompMember (comp m guard (triple_of p l target)) c w
      back (x, (e, ext, s), (never, (a, b, pair, triple))) =
          let d = c ++ e in
          let parts = pair_both (point (pair_of p l) d) x (point p d) (point l d) a b s (pair_is p l d) pair in
          let lacking : IsTrue (holds d missing) = (isnt_in c e k ext.count).1 (λ i. never (in_same (point (pair_of p l) d) x (point there c) s i)) in (
            e,
            record { count = ext.count; guard = met d ∙ (both_true (holds d g) (holds d missing)).1 (ext.guard, lacking) },
            triples_same (point (triple_of p l target) d) w (point p d) (point l d) (point sink c) a b (point sink c) parts.0 parts.1 (same_refl (point sink c)) (leads_out c e k ext.count) triple,
          )

  provided : (before after : CompsD) → IsPut (comp m guard (triple_of p l target)) before after → (c : List Atom) → length c ≡ n → (x : PointValue) → IsCompMember (comp m g (pair_of p l)) c x → IsProvided there sink after c x
  provided before after put c k x (e, ext, s) a b pair = go (holds (c ++ e) found) refl
    where
      go : (told : Bool) → holds (c ++ e) found ≡ told → IsIn x (point there c) ⊎ ((w : PointValue) × IsAmong after c w × IsTriple w a b (point sink c))
      go true told = inl (in_same (point (pair_of p l) (c ++ e)) x (point there c) s ((is c e k ext.count).0 told))
      go false told =
          let d = c ++ e in
          let y = point (triple_of p l target) d in
          let parts = pair_both (point (pair_of p l) d) x (point p d) (point l d) a b s (pair_is p l d) pair in
          let lacking : IsTrue (holds d missing) = isnt d ∙ (not_true (holds d found)).1 (λ h. false≢true (sym told ∙ h)) in
          let own : IsCompMember (comp m guard (triple_of p l target)) c y = (e, record { count = ext.count; guard = met d ∙ (both_true (holds d g) (holds d missing)).1 (ext.guard, lacking) }, same_refl y) in
          inr (y, (put.members c y).1 (inr own), triple_same y (point p d) (point l d) (point sink c) a b (point sink c) parts.0 parts.1 (same_refl (point sink c)) (leads_out c e k ext.count))

  pub adds_led_out : (before after : CompsD) → IsPut (comp m guard (triple_of p l target)) before after → (ConstraintFits (n + m) g → ConstraintFits (n + m) guard) → Fits (n + m) target →
      ((o : Bool) → AdmitsConstraint o g → AdmitsTerm o (pair_of p l) → AdmitsTerm o there → AdmitsConstraint o guard) → ((o : Bool) → AdmitsTerm o sink → AdmitsTerm o target) → (HasBoundedWidths sink → HasBoundedWidths target) → AddsSinkSteps n (comp m g (pair_of p l)) there sink before after
  adds_led_out before after put fits levels admits operators widths = record {
    adds = added_put n (comp m guard (triple_of p l target)) _ _ _ _ before after put led_is
        (λ f. (f.0, fits f.1, (f.2.0, (f.2.1.0, (levels, tt)))))
        (λ o a. (admits o a.0.0 a.0.1 a.1.0, (a.0.1.0, (a.0.1.1.0, (operators o a.1.1, tt)))))
        (λ u. (omega arith, omega arith, (u.0.2.0, (u.0.2.1.0, (widths u.1, tt)))));
    each = provided before after put;
  }

-- a comprehension whose item is no pair leads nowhere
pub none_led_out : (n m : ℕ) (g : List (List Lit)) (t there sink : TermD) (before : CompsD) → ((a b : TermD) → t ≡ pair_of a b → ⊥) → AddsSinkSteps n (comp m g t) there sink before before
none_led_out n m g t there sink before never = record {
  adds = adds_nothing n _ _ _ _ before (λ c k w h. none c h.0 h.2.1.0 h.2.1.1 h.1 h.2.1.2);
  each = λ c k x h a b pair. absurd (none c x a b h pair);
}
  where
    none : (c : List Atom) (x a b : PointValue) → IsCompMember (comp m g t) c x → IsPair x a b → ⊥
    none c x a b (e, ext, s) pair =
        let f = pair_term t (c ++ e) a b (pair_to x (point t (c ++ e)) a b (same_sym (point t (c ++ e)) x s) pair) in
        never f.0 f.1 f.2

-- as a loop goes over the pairs: what leads out, and that each pair that was met is provided for
module _ (n : ℕ) (pairs : CompsD) (there sink : TermD) where
  -- each pair that was met is provided for
  abbrev pub ProvidesSoFar : CompsD → CompsD → Type 0
  ProvidesSoFar rest made =
      (c : List Atom) → length c ≡ n → (x : PointValue) → IsAmong pairs c x → IsAmong rest c x ⊎ IsProvided there sink made c x

  abbrev pub LedSoFar : CompsD → CompsD → Type 0
  LedSoFar rest made =
      AddsSoFar n (λ c. IsMadeOfOne (LeadsToSink there sink c) (IsAmong rest c)) (λ c. IsMadeOfOne (LeadsToSink there sink c) (IsAmong pairs c)) (ItemsFit n pairs) (λ o. AdmitsItems o pairs × (AdmitsTerm o there × AdmitsTerm o sink)) (ItemsHaveBoundedWidths pairs × HasBoundedWidths sink) no_comps made ×
      ProvidesSoFar rest made

  pub led_begin : (rest made : CompsD) → rest ≡ pairs → made ≡ no_comps → LedSoFar rest made
  led_begin rest made e empty = subst (λ z. LedSoFar z made) (sym e) (subst (λ z. LedSoFar pairs z) (sym empty) (adds_begin n _ _ _ _ no_comps, λ c k x h. inl h))

  still_provided : (k : CompD) (made longer : CompsD) → AddsSinkSteps n k there sink made longer → (c : List Atom) (x : PointValue) → length c ≡ n → IsProvided there sink made c x → IsProvided there sink longer c x
  still_provided k made longer add c x l h a b pair = elim (h a b pair) [
    | inl i ↦ inl i
    | inr i ↦ inr (i.0, (add.adds.members c l i.0).1 (inl i.1), i.2)
  ]

  provides_more : (rest next made longer : CompsD) (k : CompD) → rest ≡ more k next → AddsSinkSteps n k there sink made longer → ProvidesSoFar rest made → ProvidesSoFar next longer
  provides_more rest next made longer k e add before c l x h = elim (before c l x h) [
    | inl i ↦ elim (split i) [
      | inl j ↦ inr (add.each c l x j)
      | inr j ↦ inl j
    ]
    | inr p ↦ inr (still_provided k made longer add c x l p)
  ]
    where
      split : IsAmong rest c x → IsCompMember k c x ⊎ IsAmong next c x
      split i = subst (λ z. IsAmong z c x) e i

  pub led_more : (rest next made longer : CompsD) (k : CompD) → rest ≡ more k next → (ItemsFit n pairs → CompFits n k) → ((o : Bool) → AdmitsItems o pairs → AdmitsComp o k) → (ItemsHaveBoundedWidths pairs → CompHasBoundedWidths k) → AddsSinkSteps n k there sink made longer → LedSoFar rest made → LedSoFar next longer
  led_more rest next made longer k e fits admits widths add before = (
    adds_more n _ _ _ _ no_comps _ _ _ _ _ _ made longer (one_split (LeadsToSink there sink) rest next k e) fits (λ o a. (admits o a.0, a.1)) (λ u. (widths u.0, u.1)) before.0 add.adds,
    provides_more rest next made longer k e add before.1,
  )

  pub led_end : (rest made : CompsD) → rest ≡ no_comps → LedSoFar rest made → (c : List Atom) → length c ≡ n → LeadToSink (point (coll pairs) c) (point there c) (point sink c) (point (coll made) c)
  led_end rest made e before c l = record {
    members = λ w. (
      λ i. forth w ((one_among (LeadsToSink there sink) pairs c w).0 ((same c l w).0 i)),
      λ h. (same c l w).1 ((one_among (LeadsToSink there sink) pairs c w).1 (h.0, h.3, (h.4, (h.1, h.2, h.5, h.6)))),
    );
    each = λ x a b i pair. elim (left c l x i a b pair) [
      | inl j ↦ inl j
      | inr j ↦ inr (j.0, (among_in made c j.0).0 j.1, j.2)
    ];
  }
    where
      same : (c : List Atom) → length c ≡ n → (w : PointValue) → IsIn w (point (coll made) c) ↔ IsMadeOfOne (LeadsToSink there sink c) (IsAmong pairs c) w
      same = added_members n _ _ _ _ made (adds_end n _ _ _ _ no_comps _ made (one_none (LeadsToSink there sink) rest e) before.0)

      forth : (w : PointValue) → IsMadeOfOne (LeadsToSink there sink c) (λ x. IsIn x (point (coll pairs) c)) w → (x p l : PointValue) × IsIn x (point (coll pairs) c) × (IsIn x (point there c) → ⊥) × IsPair x p l × IsTriple w p l (point sink c)
      forth w (x, i, (never, (a, b, pair, triple))) = (x, a, b, i, never, pair, triple)

      left : (c' : List Atom) → length c' ≡ n → (x : PointValue) → IsIn x (point (coll pairs) c') → IsProvided there sink made c' x
      left c' l' x i = elim (before.1 c' l' x ((among_in pairs c' x).1 i)) [
        | inl j ↦ absurd (subst (λ z. IsAmong z c' x) e j)
        | inr p ↦ p
      ]
