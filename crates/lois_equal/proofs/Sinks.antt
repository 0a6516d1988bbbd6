-- What an automaton with a sink accepts.
use Rattle.std.proofs.Common.{◌≡◌, ℕ, ◌⊎◌, inl, inr, ◌↔◌, List, [], ◌∷◌, length, append-nil, refl, sym, subst, arith}
use Rattle.lois_base.specs.Atom.{Atom}
use Rattle.lois_base.specs.Data.{TermD, coll, comp, CompsD}
use Rattle.lois_base.specs.Values.{PointValue, point, IsIn, IsSame}
use Rattle.lois_base.specs.declared.guards.Lit.{Lit}
use Rattle.lois_base.proofs.Members.{same_refl, same_sym, same_trans, in_same}
use Rattle.lois_algebra.specs.Gathered.{IsCompMember, IsPut}
use Rattle.lois_algebra.specs.Sets.{IsUnion}
use Rattle.lois_algebra.proofs.Among.{among_in}
use Rattle.lois_terms.specs.Collections.{IsColl}
use Rattle.lois_meaning.specs.Automata.{Automaton, JoinsStates, IsAutomatonOf, HasStep, Reads, Accepts, IsDeterministic, IsComplete}
use Rattle.lois_meaning.specs.Kinds.{HasParts}
use Rattle.lois_meaning.proofs.Operations.{triple_both, step_move}
use Rattle.lois_automata.specs.Projections.{five_of, five_terms, automaton_at}
use Rattle.lois_automata.specs.Deterministic.{IsDeterministicAt}
use Rattle.lois_automata.proofs.FiveMachine.{five_equal, five_machine}
use Rattle.lois_automata.proofs.Paths.{source_in}
use Rattle.lois_shortest_word.specs.Words.{AcceptsAt}
use Rattle.lois_equal.specs.Completed.{IsCompletionAt, HasOneMore, AreTotal, IsCompletedOf, IsSinkStep}
use Rattle.lois_equal.specs.Distinguishing.{HasLetterAt}

module _ (v : PointValue) (a m : Automaton) (more sink : PointValue) (is : IsAutomatonOf v a) (one : IsDeterministic a) (made : IsCompletedOf m a more sink) where
  -- a step to the sink, where a has none
  abbrev IsNew : PointValue → PointValue → PointValue → Type 0
  IsNew p l q = IsSame q sink × ((r : PointValue) → HasStep a p l r → ⊥)

  old_or_new : (p l q : PointValue) → HasStep m p l q → HasStep a p l q ⊎ IsNew p l q
  old_or_new p l q (x, i, triple) = elim ((made.steps.members x).0 i) [
    | inl j ↦ inl (x, j, triple)
    | inr j ↦ inr (new j)
  ]
    where
      new : IsSinkStep m.states m.letters a.steps sink x → IsNew p l q
      new (p', l', j, j', never, triple') =
          let parts = triple_both x p l q p' l' sink triple triple' in
          (parts.2, λ r step. never r (step_move a p l r p' l' r parts.0 parts.1 (same_refl r) step))

  kept : (p l q : PointValue) → HasStep a p l q → HasStep m p l q
  kept p l q (x, i, triple) = (x, (made.steps.members x).1 (inl i), triple)

  joins : (x : PointValue) → IsIn x m.steps → JoinsStates x m
  joins x i = elim ((made.steps.members x).0 i) [
    | inl j ↦ old (is.steps_join x j)
    | inr j ↦ new j
  ]
    where
      old : JoinsStates x a → JoinsStates x m
      old (p, l, q, triple, j, j', k) = (p, l, q, triple, (made.states.1 p).1 (inl j), (made.letters.1 l).1 (inl j'), (made.states.1 q).1 (inl k))

      new : IsSinkStep m.states m.letters a.steps sink x → JoinsStates x m
      new (p, l, j, j', never, triple) = (p, l, sink, triple, j, j', (made.states.1 sink).1 (inr (same_refl sink)))

  completed_automaton : (r : PointValue) → HasParts r (m.states ∷ m.letters ∷ m.steps ∷ m.initial ∷ m.final ∷ []) → IsAutomatonOf r m
  completed_automaton r parts = record {
    five = parts;
    states_set = made.states.0;
    letters_set = made.letters.0;
    steps_set = made.steps_set;
    initial_set = made.initial.0;
    final_set = made.final.0;
    steps_join = joins;
    initial_states = λ x i. (made.states.1 x).1 (inl (is.initial_states x ((made.initial.1 x).0 i)));
    final_states = λ x i. (made.states.1 x).1 (inl (is.final_states x ((made.final.1 x).0 i)));
  }

  completed_deterministic : IsDeterministic m
  completed_deterministic = (
    (one.0.0, (made.initial.1 one.0.0).1 one.0.1, λ q i. one.0.2 q ((made.initial.1 q).0 i)),
    λ p l q r step step'. elim (old_or_new p l q step) [
      | inl s ↦ elim (old_or_new p l r step') [
        | inl t ↦ one.1 p l q r s t
        | inr t ↦ absurd (t.1 q s)
      ]
      | inr s ↦ elim (old_or_new p l r step') [
        | inl t ↦ absurd (s.1 r t)
        | inr t ↦ same_trans q sink r s.0 (same_sym r sink t.0)
      ]
    ],
  )

  completed_complete : IsComplete m
  completed_complete p l i j = made.steps.each p l i j

  -- no path leads out of the sink
  stuck : (word : List PointValue) (p q : PointValue) → IsSame p sink → Reads m word p q → IsSame q sink
  stuck [] p q s h = same_trans q p sink (same_sym p q h) s
  stuck (l ∷ word) p q s (r, step, rest) = elim (old_or_new p l r step) [
    | inl h ↦ absurd (made.apart (in_same p sink a.states s (source_in v a is p l r h)))
    | inr h ↦ stuck word r q h.0 rest
  ]

  -- a path to a state of a is one of a
  reads_old : (word : List PointValue) (p q : PointValue) → IsIn q a.states → Reads m word p q → Reads a word p q
  reads_old [] p q i h = h
  reads_old (l ∷ word) p q i (r, step, rest) = elim (old_or_new p l r step) [
    | inl h ↦ (r, h, reads_old word r q i rest)
    | inr h ↦ absurd (made.apart (in_same q sink a.states (stuck word r q h.0 rest) i))
  ]

  reads_new : (word : List PointValue) (p q : PointValue) → Reads a word p q → Reads m word p q
  reads_new [] p q h = h
  reads_new (l ∷ word) p q (r, step, rest) = (r, kept p l r step, reads_new word r q rest)

  completed_words : (word : List PointValue) → Accepts m word ↔ Accepts a word
  completed_words word = (there, back)
    where
      there : Accepts m word → Accepts a word
      there (p, i, (q, j, reads)) =
          let final = (made.final.1 q).0 j in
          (p, (made.initial.1 p).0 i, (q, final, reads_old word p q (is.final_states q final) reads))

      back : Accepts a word → Accepts m word
      back (p, i, (q, j, reads)) = (p, (made.initial.1 p).1 i, (q, (made.final.1 q).1 j, reads_new word p q reads))

-- the automaton that a term of five sets is, if it is one
module _ (s l t i f : CompsD) (c : List Atom) (is : IsAutomatonOf (point (five_of s l t i f) c) (automaton_at s l t i f c)) where
  accepts_five : (word : List PointValue) → AcceptsAt (five_of s l t i f) c word ↔ Accepts (automaton_at s l t i f c) word
  accepts_five word = (λ h. subst (λ z. Accepts z word) (five_equal s l t i f c h.0 h.1) h.2, λ h. (automaton_at s l t i f c, is, h))

  letter_five : (x : PointValue) → HasLetterAt (five_of s l t i f) c x ↔ IsIn x (point (coll l) c)
  letter_five x = (λ h. subst (λ z. IsIn x z.letters) (five_equal s l t i f c h.0 h.1) h.2, λ h. (automaton_at s l t i f c, is, h))

module _ (s l t i f : CompsD) (rs rl rt : CompsD) (more sink : TermD) (c : List Atom) where
  pub completion_five : IsDeterministicAt (five_of s l t i f) c → IsCompletedOf (automaton_at rs rl rt i f c) (automaton_at s l t i f c) (point more c) (point sink c) → IsCompletionAt (five_of s l t i f) more (five_of rs rl rt i f) c
  completion_five (m, own, only) made =
      let v = point (five_of s l t i f) c in
      let a = automaton_at s l t i f c in
      let b = automaton_at rs rl rt i f c in
      let is = five_machine s l t i f c (m, own) in
      let one = subst IsDeterministic (five_equal s l t i f c m own) only in
      let is' = completed_automaton v a b (point more c) (point sink c) is one made (point (five_of rs rl rt i f) c) refl in
      let same = completed_words v a b (point more c) (point sink c) is one made in
      let accepts = accepts_five s l t i f c is in
      let accepts' = accepts_five rs rl rt i f c is' in
      let letter = letter_five s l t i f c is in
      let letter' = letter_five rs rl rt i f c is' in
      record {
        whole = (b, is', completed_deterministic v a b (point more c) (point sink c) is one made, completed_complete v a b (point more c) (point sink c) is one made);
        words = λ word. (λ h. (accepts word).1 ((same word).0 ((accepts' word).0 h)), λ h. (accepts' word).1 ((same word).1 ((accepts word).0 h)));
        letters = λ x. (
          λ h. elim ((made.letters.1 x).0 ((letter' x).0 h)) [
            | inl j ↦ inl ((letter x).1 j)
            | inr j ↦ inr j
          ],
          λ h. (letter' x).1 ((made.letters.1 x).1 (elim h [
            | inl j ↦ inl ((letter x).0 j)
            | inr j ↦ inr j
          ])),
        );
      }

-- the set with one more member
module _ (ks : CompsD) (t : TermD) where
  made_alone : (c : List Atom) (w : PointValue) → IsCompMember (comp 0 ([] ∷ []) t) c w ↔ IsSame w (point t c)
  made_alone c w = (there, λ s. ([], record { count = refl; guard = refl }, subst (λ z. IsSame (point t z) w) (sym (append-nil c)) (same_sym w (point t c) s)))
    where
      there : IsCompMember (comp 0 ([] ∷ []) t) c w → IsSame w (point t c)
      there ([], ext, s) = same_sym (point t c) w (subst (λ z. IsSame (point t z) w) (append-nil c) s)
      there (a ∷ e, ext, s) = absurd (omega (arith, ext.count))

  one_put : (after : CompsD) → IsPut (comp 0 ([] ∷ []) t) ks after → (c : List Atom) → HasOneMore (point (coll ks) c) (point t c) (point (coll after) c)
  one_put after put c w = (
    λ i. elim ((put.members c w).0 ((among_in after c w).1 i)) [
      | inl j ↦ inl ((among_in ks c w).0 j)
      | inr j ↦ inr ((made_alone c w).0 j)
    ],
    λ h. (among_in after c w).0 ((put.members c w).1 (elim h [
      | inl j ↦ inl ((among_in ks c w).1 j)
      | inr j ↦ inr ((made_alone c w).1 j)
    ])),
  )

  pub item_put : (ks' after : CompsD) (g : List (List Lit)) (t' : TermD) → ks' ≡ ks → g ≡ [] ∷ [] → t' ≡ t → IsPut (comp 0 g t') ks' after → (c : List Atom) → HasOneMore (point (coll ks) c) (point t c) (point (coll after) c)
  item_put ks' after g t' e1 e2 e3 put = one_put after (subst (λ z. IsPut (comp 0 ([] ∷ []) t) z after) e1 (subst (λ z. IsPut (comp 0 z t) ks' after) e2 (subst (λ z. IsPut (comp 0 g z) ks' after) e3 put)))

-- a term of five sets that is so made of another one
module _ (n : ℕ) (t r : TermD) (s l st i f : CompsD) (is : t ≡ five_of s l st i f) where
  pub completed_at : (more : CompsD) (sink steps : TermD) (rs rl i2 f2 : CompsD) → ((c : List Atom) → IsIn (point sink c) (point (coll s) c) → ⊥) → IsColl steps → i2 ≡ i → f2 ≡ f →
      ((c : List Atom) → HasOneMore (point (coll s) c) (point sink c) (point (coll rs) c)) → IsUnion (coll l) (coll more) (coll rl) →
      ((c : List Atom) → length c ≡ n → AreTotal (point (coll rs) c) (point (coll rl) c) (point (coll st) c) (point sink c) (point steps c)) →
      r ≡ five_terms (coll rs) (coll rl) steps (coll i2) (coll f2) → (c : List Atom) → length c ≡ n → IsDeterministicAt t c → IsCompletionAt t (coll more) r c
  completed_at more sink steps rs rl i2 f2 apart set ei ef one_more all total made c k only =
      let rt : CompsD = set.0 in
      let here : r ≡ five_of rs rl rt i f = rw (made, set.1, ei, ef) in
      let own : IsCompletedOf (automaton_at rs rl rt i f c) (automaton_at s l st i f c) (point (coll more) c) (point sink c) = record {
        states = (tt, one_more c);
        letters = (tt, all c);
        steps_set = tt;
        steps = subst (λ z. AreTotal (point (coll rs) c) (point (coll rl) c) (point (coll st) c) (point sink c) (point z c)) set.1 (total c k);
        initial = (tt, λ p. (λ h. h, λ h. h));
        final = (tt, λ p. (λ h. h, λ h. h));
        apart = apart c;
      } in
      let at : IsCompletionAt (five_of s l st i f) (coll more) (five_of rs rl rt i f) c = completion_five s l st i f rs rl rt (coll more) sink c (subst (λ z. IsDeterministicAt z c) is only) own in
      subst (λ z. IsCompletionAt z (coll more) r c) (sym is) (subst (λ z. IsCompletionAt (five_of s l st i f) (coll more) z c) (sym here) at)
