-- What makes five sets an automaton, and an automaton deterministic and complete, said by sets that are made of its steps.
use Rattle.std.proofs.Common.{◌≡◌, ℕ, ◌&&◌, ◌⊎◌, inl, inr, ◌↔◌, true, List, [], length, refl, sym, subst, ◌∙◌}
use Rattle.std.proofs.lemmas.Bool.{false≢true}
use Rattle.std.proofs.lemmas.List.{length-map}
use Rattle.std.specs.Bool.{IsTrue}
use Rattle.lois_base.specs.Atom.{Atom, whole}
use Rattle.lois_base.specs.Data.{TermD, var, tag, tup, coll, no_terms, term, CompsD, no_comps}
use Rattle.lois_base.specs.Fits.{ConstraintFits}
use Rattle.lois_base.specs.Patterns.{AreAlike}
use Rattle.lois_base.specs.Truth.{holds, sampled}
use Rattle.lois_base.specs.Values.{PointValue, point, IsSame, IsIn, IsIncluded}
use Rattle.lois_base.specs.declared.guards.Lit.{Lit}
use Rattle.lois_base.proofs.Members.{same_refl, same_sym, same_trans, in_same, in_included, member_in}
use Rattle.lois_base.proofs.Truths.{holds_ordered}
use Rattle.lois_deciders.specs.Satisfiability.{IsCounterexample}
use Rattle.lois_meaning.specs.Automata.{IsPair, IsTriple, HasStep, IsDeterministic, IsComplete}
use Rattle.lois_meaning.proofs.Operations.{pair_exists, pair_both, triple_both, step_move}
use Rattle.lois_automata.specs.Built.{ArePairs}
use Rattle.lois_automata.specs.Projections.{five_of, automaton_at, HasStepIn, IsProjected, AreProjected, AreNonTriples, AreTriples, ArePartsIn, HasOneAtMost, HasUniqueTargets, IsFunction, StepsJoin}
use Rattle.lois_automata.specs.declared.projections.Projection.{Projection}
use Rattle.lois_automata.specs.declared.projections.Projection.TheVariants.{Source, Label, Target, Outgoing, Keyed}
use Rattle.lois_automata.specs.declared.verdicts.Verdict.{Verdict}
use Rattle.lois_automata.specs.declared.verdicts.Verdict.TheVariants.{Holds, Fails}
use Rattle.lois_automata.specs.Machines.{IsAutomatonAt, IsCompleteAt}
use Rattle.lois_automata.specs.Deterministic.{IsDeterministicAt}
use Rattle.lois_automata.specs.Throughout.{HoldsThroughout}
use Rattle.lois_automata.specs.Verdicts.{HoldsWhere, IsBreak, IsVerdictOn}
use Rattle.lois_automata.proofs.Tests.{both_where}
use Rattle.lois_automata.proofs.FiveMachine.{five_equal, five_machine}
use Rattle.lois_automata.proofs.Written.{triple_is}

-- ---- verdicts
pub verdict_as : (n : ℕ) (u : List (List Lit)) (P Q : List Atom → Type 0) (v : Verdict) → ((c : List Atom) → length c ≡ n → IsTrue (holds c u) → P c ↔ Q c) → IsVerdictOn n u P v → IsVerdictOn n u Q v
verdict_as n u P Q Holds same h = λ c l met. (same c l met).0 (h c l met)
verdict_as n u P Q (Fails s) same h = record {
  count = h.count;
  admitted = h.admitted;
  broken = λ q. h.broken ((same (sampled s.items) (length-map s.items whole ∙ h.count) h.admitted).1 q);
  alike = λ c a.
      let there = h.alike c a in
      (there.0, λ q. there.1 ((same c (sym a.count ∙ (length-map s.items whole ∙ h.count)) there.0).1 q));
}

-- ---- steps that join states
triple_or_not_at : (t : TermD) (d : List Atom) → ((p l q : PointValue) × IsTriple (point t d) p l q) ⊎ ((p l q : PointValue) → IsTriple (point t d) p l q → ⊥)
triple_or_not_at (tup (term a (term b (term e no_terms)))) d = inl (point a d, point b d, point e d, triple_is a b e d)
triple_or_not_at (tup no_terms) d = inr none
  where
    none : (p l q : PointValue) → IsTriple (point (tup no_terms) d) p l q → ⊥
    none p l q (x, y, z, h, i, j, k) = absurd (cc)
triple_or_not_at (tup (term a no_terms)) d = inr none
  where
    none : (p l q : PointValue) → IsTriple (point (tup (term a no_terms)) d) p l q → ⊥
    none p l q (x, y, z, h, i, j, k) = absurd (cc)
triple_or_not_at (tup (term a (term b no_terms))) d = inr none
  where
    none : (p l q : PointValue) → IsTriple (point (tup (term a (term b no_terms))) d) p l q → ⊥
    none p l q (x, y, z, h, i, j, k) = absurd (cc)
triple_or_not_at (tup (term a (term b (term e (term f ts))))) d = inr none
  where
    none : (p l q : PointValue) → IsTriple (point (tup (term a (term b (term e (term f ts))))) d) p l q → ⊥
    none p l q (x, y, z, h, i, j, k) = absurd (cc)
triple_or_not_at (var i) d = inr (λ p l q h. h.3)
triple_or_not_at (tag i) d = inr (λ p l q h. h.3)
triple_or_not_at (coll ks) d = inr (λ p l q h. h.3)

module _ (n : ℕ) (t : CompsD) where
  -- no step is left over where each is a triple
  pub all_triples : (others : TermD) → AreNonTriples n (coll t) others → (c : List Atom) → length c ≡ n → IsIncluded (point others c) (point (coll no_comps) c) ↔ AreTriples (point (coll t) c)
  all_triples others misfit c len = (there, back)
    where
      there : IsIncluded (point others c) (point (coll no_comps) c) → AreTriples (point (coll t) c)
      there none x i = elim (triple_or_not_at x.term_of x.choice) [
        | inl h ↦ h
        | inr h ↦ absurd ((in_included x (point others c) (point (coll no_comps) c) none ((misfit c len x).1 (i, h))).1)
      ]

      back : AreTriples (point (coll t) c) → IsIncluded (point others c) (point (coll no_comps) c)
      back triples u i =
          let h = (misfit c len u).0 (member_in u (point others c) i) in
          let j = triples u h.0 in
          absurd (h.1 j.0 j.1 j.2 j.3)

  pub parts_in : (shape : Projection) (parts whole : TermD) → AreProjected n shape (coll t) parts → (c : List Atom) → length c ≡ n → IsIncluded (point parts c) (point whole c) ↔ ArePartsIn shape (point (coll t) c) (point whole c)
  parts_in shape parts whole are c len = (
    λ inside w p l q step h. in_included w (point parts c) (point whole c) inside ((are c len w).1 (p, l, q, step, h)),
    λ all u i. let h = (are c len u).0 (member_in u (point parts c) i) in all u h.0 h.1 h.2 h.3 h.4,
  )

-- the parts of the steps are states and letters where each step joins states by a letter
pub steps_join : (states letters steps : PointValue) → (AreTriples steps × ((ArePartsIn Source steps states × ArePartsIn Target steps states) × ArePartsIn Label steps letters)) ↔ StepsJoin states letters steps
steps_join states letters steps = (there, back)
  where
    there : AreTriples steps × ((ArePartsIn Source steps states × ArePartsIn Target steps states) × ArePartsIn Label steps letters) → StepsJoin states letters steps
    there (triples, ((from, to), by)) x i =
        let h = triples x i in
        let step : HasStepIn steps h.0 h.1 h.2 = (x, i, h.3) in
        (h.0, h.1, h.2, h.3, from h.0 h.0 h.1 h.2 step (same_refl h.0), by h.1 h.0 h.1 h.2 step (same_refl h.1), to h.2 h.0 h.1 h.2 step (same_refl h.2))

    back : StepsJoin states letters steps → AreTriples steps × ((ArePartsIn Source steps states × ArePartsIn Target steps states) × ArePartsIn Label steps letters)
    back join = (λ x i. let j = join x i in (j.0, j.1, j.2, j.3), ((from, to), by))
      where
        from : ArePartsIn Source steps states
        from u p a q (x, k, h) same =
            let j = join x k in
            let both = triple_both x p a q j.0 j.1 j.2 h j.3 in
            in_same j.0 u states (same_sym u j.0 (same_trans u p j.0 same both.0)) j.4

        to : ArePartsIn Target steps states
        to u p a q (x, k, h) same =
            let j = join x k in
            let both = triple_both x p a q j.0 j.1 j.2 h j.3 in
            in_same j.2 u states (same_sym u j.2 (same_trans u q j.2 same both.2)) j.6

        by : ArePartsIn Label steps letters
        by u p a q (x, k, h) same =
            let j = join x k in
            let both = triple_both x p a q j.0 j.1 j.2 h j.3 in
            in_same j.1 u letters (same_sym u j.1 (same_trans u a j.1 same both.1)) j.5

-- the steps are a function of state and letter
pub led_once : (n : ℕ) (t : CompsD) (keyed : TermD) → AreProjected n Keyed (coll t) keyed → (c : List Atom) → length c ≡ n → IsFunction (point keyed c) ↔ HasUniqueTargets (point (coll t) c)
led_once n t keyed are c len = (there, back)
  where
    there : IsFunction (point keyed c) → HasUniqueTargets (point (coll t) c)
    there agree p a q r one two =
        let k = pair_exists p a in
        let x = pair_exists k.0 q in
        let y = pair_exists k.0 r in
        agree x.0 y.0 k.0 q r ((are c len x.0).1 (p, a, q, one, (k.0, k.1, x.1))) ((are c len y.0).1 (p, a, r, two, (k.0, k.1, y.1))) x.1 y.1

    back : HasUniqueTargets (point (coll t) c) → IsFunction (point keyed c)
    back single x y k v v' in_x in_y h h' = go ((are c len x).0 in_x) ((are c len y).0 in_y)
      where
        go : ((p a q : PointValue) × HasStepIn (point (coll t) c) p a q × IsProjected Keyed x p a q) → ((p a q : PointValue) × HasStepIn (point (coll t) c) p a q × IsProjected Keyed y p a q) → IsSame v v'
        go (p, a, q, one, (k1, m1, w1)) (p', a', q', two, (k2, m2, w2)) =
            let first : IsSame k1 k × IsSame q v = pair_both x x k1 q k v (same_refl x) w1 h in
            let second : IsSame k2 k × IsSame q' v' = pair_both y y k2 q' k v' (same_refl y) w2 h' in
            let keys : IsSame p' p × IsSame a' a = pair_both k2 k1 p' a' p a (same_trans k2 k k1 second.0 (same_sym k1 k first.0)) m2 m1 in
            let moved : HasStepIn (point (coll t) c) p a q' = step_move (automaton_at t t t t t c) p' a' q' p a q' keys.0 keys.1 (same_refl q') two in
            same_trans v q v' (same_sym q v first.1) (same_trans q q' v' (single p a q q' one moved) second.1)

-- the pairs of members are a function where there is at most one
pub one_at_most : (n : ℕ) (i : CompsD) (squared : TermD) → ArePairs n (coll i) (coll i) squared → (c : List Atom) → length c ≡ n → IsFunction (point squared c) ↔ HasOneAtMost (point (coll i) c)
one_at_most n i squared are c len = (there, back)
  where
    there : IsFunction (point squared c) → HasOneAtMost (point (coll i) c)
    there agree p q j k =
        let x = pair_exists p p in
        let y = pair_exists p q in
        agree x.0 y.0 p p q ((are c len x.0).1 (p, p, j, j, x.1)) ((are c len y.0).1 (p, q, j, k, y.1)) x.1 y.1

    back : HasOneAtMost (point (coll i) c) → IsFunction (point squared c)
    back same x y k v v' in_x in_y h h' =
        let one = (are c len x).0 in_x in
        let two = (are c len y).0 in_y in
        let first : IsSame one.0 k × IsSame one.1 v = pair_both x x one.0 one.1 k v (same_refl x) one.4 h in
        let second : IsSame two.0 k × IsSame two.1 v' = pair_both y y two.0 two.1 k v' (same_refl y) two.4 h' in
        same_trans v one.1 v' (same_sym one.1 v first.1) (same_trans one.1 two.1 v' (same one.1 two.1 one.3 two.3) second.1)

module _ (s l t i f : CompsD) (c : List Atom) where
  pub is_automaton : (StepsJoin (point (coll s) c) (point (coll l) c) (point (coll t) c) × (IsIncluded (point (coll i) c) (point (coll s) c) × IsIncluded (point (coll f) c) (point (coll s) c))) ↔ IsAutomatonAt (five_of s l t i f) c
  is_automaton = (there, back)
    where
      there : StepsJoin (point (coll s) c) (point (coll l) c) (point (coll t) c) × (IsIncluded (point (coll i) c) (point (coll s) c) × IsIncluded (point (coll f) c) (point (coll s) c)) → IsAutomatonAt (five_of s l t i f) c
      there (join, (starts, ends)) = (
        automaton_at s l t i f c,
        record {
          five = refl;
          states_set = tt;
          letters_set = tt;
          steps_set = tt;
          initial_set = tt;
          final_set = tt;
          steps_join = join;
          initial_states = λ x h. in_included x (point (coll i) c) (point (coll s) c) starts h;
          final_states = λ x h. in_included x (point (coll f) c) (point (coll s) c) ends h;
        },
      )

      back : IsAutomatonAt (five_of s l t i f) c → StepsJoin (point (coll s) c) (point (coll l) c) (point (coll t) c) × (IsIncluded (point (coll i) c) (point (coll s) c) × IsIncluded (point (coll f) c) (point (coll s) c))
      back h =
          let is = five_machine s l t i f c h in
          (is.steps_join, (λ u k. is.initial_states u (member_in u (point (coll i) c) k), λ u k. is.final_states u (member_in u (point (coll f) c) k)))

  pub is_deterministic : IsAutomatonAt (five_of s l t i f) c → ((((w : PointValue) × IsIn w (point (coll i) c)) × HasOneAtMost (point (coll i) c)) × HasUniqueTargets (point (coll t) c)) ↔ IsDeterministicAt (five_of s l t i f) c
  is_deterministic h = (there, back)
    where
      there : (((w : PointValue) × IsIn w (point (coll i) c)) × HasOneAtMost (point (coll i) c)) × HasUniqueTargets (point (coll t) c) → IsDeterministicAt (five_of s l t i f) c
      there (((w, k), one), led) = (automaton_at s l t i f c, five_machine s l t i f c h, ((w, k, λ q j. one w q k j), led))

      back : IsDeterministicAt (five_of s l t i f) c → (((w : PointValue) × IsIn w (point (coll i) c)) × HasOneAtMost (point (coll i) c)) × HasUniqueTargets (point (coll t) c)
      back (m, is, det) = go (subst IsDeterministic (five_equal s l t i f c m is) det)
        where
          go : IsDeterministic (automaton_at s l t i f c) → (((w : PointValue) × IsIn w (point (coll i) c)) × HasOneAtMost (point (coll i) c)) × HasUniqueTargets (point (coll t) c)
          go ((p, k, only), single) = (((p, k), λ q r j j'. same_trans q p r (same_sym p q (only q j)) (only r j')), single)

  pub is_complete : (n : ℕ) (wanted outgoing : TermD) → length c ≡ n → IsAutomatonAt (five_of s l t i f) c → ArePairs n (coll s) (coll l) wanted → AreProjected n Outgoing (coll t) outgoing → IsIncluded (point wanted c) (point outgoing c) ↔ IsCompleteAt (five_of s l t i f) c
  is_complete n wanted outgoing len h pairs are = (there, back)
    where
      there : IsIncluded (point wanted c) (point outgoing c) → IsCompleteAt (five_of s l t i f) c
      there inside = (automaton_at s l t i f c, five_machine s l t i f c h, full)
        where
          full : IsComplete (automaton_at s l t i f c)
          full p a j k =
              let x = pair_exists p a in
              go x.0 x.1 ((are c len x.0).0 (in_included x.0 (point wanted c) (point outgoing c) inside ((pairs c len x.0).1 (p, a, j, k, x.1))))
            where
              go : (x : PointValue) → IsPair x p a → ((p' a' q : PointValue) × HasStepIn (point (coll t) c) p' a' q × IsPair x p' a') → (q : PointValue) × HasStep (automaton_at s l t i f c) p a q
              go x pair (p', a', q, step, pair') =
                  let both : IsSame p' p × IsSame a' a = pair_both x x p' a' p a (same_refl x) pair' pair in
                  (q, step_move (automaton_at s l t i f c) p' a' q p a q both.0 both.1 (same_refl q) step)

      back : IsCompleteAt (five_of s l t i f) c → IsIncluded (point wanted c) (point outgoing c)
      back (m, is, full) u k =
          let whole : IsComplete (automaton_at s l t i f c) = subst IsComplete (five_equal s l t i f c m is) full in
          let w = (pairs c len u).0 (member_in u (point wanted c) k) in
          let step = whole w.0 w.1 w.2 w.3 in
          (are c len u).1 (w.0, w.1, step.0, step.1, w.4)

-- ---- what the checks ask for
pub joined_where : (n : ℕ) (s l t : CompsD) (triples from to by ends parts r : List (List Lit)) → HoldsWhere n (λ c. AreTriples (point (coll t) c)) triples → HoldsWhere n (λ c. ArePartsIn Source (point (coll t) c) (point (coll s) c)) from →
    HoldsWhere n (λ c. ArePartsIn Target (point (coll t) c) (point (coll s) c)) to → HoldsWhere n (λ c. ArePartsIn Label (point (coll t) c) (point (coll l) c)) by → ((d : List Atom) → holds d ends ≡ (holds d from && holds d to)) →
    ((d : List Atom) → holds d parts ≡ (holds d ends && holds d by)) → ((d : List Atom) → holds d r ≡ (holds d triples && holds d parts)) → HoldsWhere n (λ c. StepsJoin (point (coll s) c) (point (coll l) c) (point (coll t) c)) r
joined_where n s l t triples from to by ends parts r h from_is to_is by_is met1 met2 met3 =
    let both : HoldsWhere n (λ c. ArePartsIn Source (point (coll t) c) (point (coll s) c) × ArePartsIn Target (point (coll t) c) (point (coll s) c)) ends =
    both_where n (λ c. ArePartsIn Source (point (coll t) c) (point (coll s) c)) (λ c. ArePartsIn Target (point (coll t) c) (point (coll s) c)) from to ends from_is to_is met1 in
    let all : HoldsWhere n (λ c. (ArePartsIn Source (point (coll t) c) (point (coll s) c) × ArePartsIn Target (point (coll t) c) (point (coll s) c)) × ArePartsIn Label (point (coll t) c) (point (coll l) c)) parts =
    both_where n (λ c. ArePartsIn Source (point (coll t) c) (point (coll s) c) × ArePartsIn Target (point (coll t) c) (point (coll s) c)) (λ c. ArePartsIn Label (point (coll t) c) (point (coll l) c)) ends by parts both by_is met2 in
    λ c len.
    let one = steps_join (point (coll s) c) (point (coll l) c) (point (coll t) c) in
    let met = both_where n (λ d. AreTriples (point (coll t) d)) (λ d. (ArePartsIn Source (point (coll t) d) (point (coll s) d) × ArePartsIn Target (point (coll t) d) (point (coll s) d)) × ArePartsIn Label (point (coll t) d) (point (coll l) d)) triples parts r h all met3 c len in
    (λ x. one.0 (met.0 x), λ x. met.1 (one.1 x))

pub parted_breaks : (n : ℕ) (u w : List (List Lit)) (s : List ℕ) → ConstraintFits n u → ConstraintFits n w → IsCounterexample n u w s → IsBreak n u (λ c. IsTrue (holds c w)) s
parted_breaks n u w s under wanted (small, met, unmet) = record {
  count = small.count;
  admitted = met;
  broken = λ h. false≢true (sym unmet ∙ h);
  alike = λ c a. (sym (same u under c a) ∙ met, λ h. false≢true (sym unmet ∙ (same w wanted c a ∙ h)));
}
  where
    same : (g : List (List Lit)) → ConstraintFits n g → (c : List Atom) → AreAlike true (sampled s) c → holds (sampled s) g ≡ holds c g
    same g fits c a = holds_ordered (sampled s) c a g (subst (λ z. ConstraintFits z g) (sym (length-map s whole ∙ small.count)) fits)

-- nothing is admitted where a term that is an automaton at no choice is one throughout
pub never_automaton : (n : ℕ) (u : List (List Lit)) (a : TermD) (r : List (List Lit)) (v : Verdict) → r ≡ [] → ((c : List Atom) → IsAutomatonAt a c → ⊥) → IsVerdictOn n u (λ c. IsTrue (holds c r)) v → IsVerdictOn n u (IsAutomatonAt a) v
never_automaton n u a r v empty never =
    verdict_as n u (λ c. IsTrue (holds c r)) (IsAutomatonAt a) v (λ c l m. (λ h. absurd (false≢true (subst (λ z. IsTrue (holds c z)) empty h)), λ h. absurd (never c h)))

module _ (n : ℕ) (u : List (List Lit)) (a : TermD) (s l t i f : CompsD) (is : a ≡ five_of s l t i f) (wanted : List (List Lit)) (v : Verdict) (told : IsVerdictOn n u (λ c. IsTrue (holds c wanted)) v) where
  pub found_automaton : (joined starts ends both : List (List Lit)) → HoldsWhere n (λ c. StepsJoin (point (coll s) c) (point (coll l) c) (point (coll t) c)) joined → HoldsWhere n (λ c. IsIncluded (point (coll i) c) (point (coll s) c)) starts →
      HoldsWhere n (λ c. IsIncluded (point (coll f) c) (point (coll s) c)) ends → ((d : List Atom) → holds d both ≡ (holds d starts && holds d ends)) → ((d : List Atom) → holds d wanted ≡ (holds d joined && holds d both)) → IsVerdictOn n u (IsAutomatonAt a) v
  found_automaton joined starts ends both h start end met met' =
      let pair = both_where n (λ c. IsIncluded (point (coll i) c) (point (coll s) c)) (λ c. IsIncluded (point (coll f) c) (point (coll s) c)) starts ends both start end met in
      let all = both_where n (λ c. StepsJoin (point (coll s) c) (point (coll l) c) (point (coll t) c)) (λ c. IsIncluded (point (coll i) c) (point (coll s) c) × IsIncluded (point (coll f) c) (point (coll s) c)) joined both wanted h pair met' in
      subst (λ z. IsVerdictOn n u (IsAutomatonAt z) v) (sym is) (verdict_as n u (λ c. IsTrue (holds c wanted)) (IsAutomatonAt (five_of s l t i f)) v (λ c len m.
      let one = is_automaton s l t i f c in
      (λ x. one.0 ((all c len).0 x), λ x. (all c len).1 (one.1 x))) told)

  module _ (automaton : HoldsThroughout n u (IsAutomatonAt a)) where
    pub found_deterministic : (some one led start : List (List Lit)) → HoldsWhere n (λ c. (w : PointValue) × IsIn w (point (coll i) c)) some → HoldsWhere n (λ c. HasOneAtMost (point (coll i) c)) one → HoldsWhere n (λ c. HasUniqueTargets (point (coll t) c)) led →
        ((d : List Atom) → holds d start ≡ (holds d some && holds d one)) → ((d : List Atom) → holds d wanted ≡ (holds d start && holds d led)) → IsVerdictOn n u (IsDeterministicAt a) v
    found_deterministic some one led start some_is one_is led_is met met' =
        let first = both_where n (λ c. (w : PointValue) × IsIn w (point (coll i) c)) (λ c. HasOneAtMost (point (coll i) c)) some one start some_is one_is met in
        let all = both_where n (λ c. ((w : PointValue) × IsIn w (point (coll i) c)) × HasOneAtMost (point (coll i) c)) (λ c. HasUniqueTargets (point (coll t) c)) start led wanted first led_is met' in
        subst (λ z. IsVerdictOn n u (IsDeterministicAt z) v) (sym is) (verdict_as n u (λ c. IsTrue (holds c wanted)) (IsDeterministicAt (five_of s l t i f)) v (λ c len m.
        let same = is_deterministic s l t i f c (subst (λ z. IsAutomatonAt z c) is (automaton c len m)) in
        (λ x. same.0 ((all c len).0 x), λ x. (all c len).1 (same.1 x))) told)

    pub found_complete : (asked outgoing : TermD) → ArePairs n (coll s) (coll l) asked → AreProjected n Outgoing (coll t) outgoing → HoldsWhere n (λ c. IsIncluded (point asked c) (point outgoing c)) wanted → IsVerdictOn n u (IsCompleteAt a) v
    found_complete asked outgoing pairs are inside =
        subst (λ z. IsVerdictOn n u (IsCompleteAt z) v) (sym is) (verdict_as n u (λ c. IsTrue (holds c wanted)) (IsCompleteAt (five_of s l t i f)) v (λ c len m.
        let same = is_complete s l t i f c n asked outgoing len (subst (λ z. IsAutomatonAt z c) is (automaton c len m)) pairs are in
        (λ x. same.0 ((inside c len).0 x), λ x. (inside c len).1 (same.1 x))) told)
