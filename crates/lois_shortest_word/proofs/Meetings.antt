-- What the rounds over pairs reach, and which words lead there.
use Rattle.std.proofs.Common.{◌≡◌, ℕ, ◌+◌, ◌≤◌, ◌⊎◌, inl, inr, List, [], ◌∷◌, ◌++◌, length, length-append, take, drop, refl, sym, ap, subst, ◌∙◌, arith}
use Rattle.std.proofs.lemmas.List.{append_assoc}
use Rattle.std.specs.Bool.{IsTrue}
use Rattle.lois_base.specs.Atom.{Atom}
use Rattle.lois_base.specs.Data.{TermD, coll, CompsD, no_comps, comps_of}
use Rattle.lois_base.specs.Tree.{tree}
use Rattle.lois_base.specs.Truth.{holds, sampled}
use Rattle.lois_base.specs.Values.{PointValue, point, IsIn}
use Rattle.lois_base.specs.declared.guards.Lit.{Lit}
use Rattle.lois_base.proofs.Members.{same_refl, same_sym, in_same}
use Rattle.lois_algebra.specs.Gathered.{IsAmong}
use Rattle.lois_algebra.proofs.Among.{among_in}
use Rattle.lois_meaning.specs.Automata.{Automaton, IsPair, IsTriple, HasStep, Reads, AcceptsFrom, Accepts}
use Rattle.lois_meaning.proofs.Operations.{pair_both, triple_both, pair_to, pair_exists, triple_exists, step_move, reads_on}
use Rattle.lois_automata.specs.Built.{ArePairs}
use Rattle.lois_automata.specs.Projections.{automaton_at}
use Rattle.lois_automata.specs.Throughout.{HoldsThroughout}
use Rattle.lois_shortest_word.specs.Pairs.{IsJointStep, IsPairIn, AreCommon}
use Rattle.lois_shortest_word.specs.Rounds.{steps_at, seen_at, frontier_at, IsNext, IsRound, IsLastRound, HaveNoCommonWord, LeadsToCommon}
use Rattle.lois_shortest_word.specs.SymbolicStates.{IsInitialSymbolicState, HasNoInitialState}
use Rattle.lois_shortest_word.specs.declared.rounds.Reached.{Reached}
use Rattle.lois_shortest_word.specs.declared.symbolic_states.SymbolicState.{SymbolicState}
use Rattle.lois_shortest_word.proofs.Choices.{first_length, other_length, whole_sample}

-- paths are those of the steps, and of more steps
reads_more : (a b : Automaton) → ((x : PointValue) → IsIn x a.steps → IsIn x b.steps) → (word : List PointValue) (p q : PointValue) → Reads a word p q → Reads b word p q
reads_more a b into [] p q h = h
reads_more a b into (l ∷ word) p q (r, (x, i, t), rest) = (r, (x, into x i, t), reads_more a b into word r q rest)

module _ (n : ℕ) (u : List (List Lit)) (s l t i f s' l' t' i' f' starts : CompsD) where
  -- both accept the word from the parts of the pair
  abbrev pub FromBoth : List Atom → PointValue → List PointValue → Type 0
  FromBoth c x word = (p q : PointValue) × IsPair x p q × AcceptsFrom (automaton_at s l t i f c) p word × AcceptsFrom (automaton_at s' l' t' i' f' c) q word

  -- some word of k letters leads to x
  abbrev pub IsLed : Reached → ℕ → List Atom → PointValue → Type 0
  IsLed r k c x = (p : PointValue) × (word : List PointValue) × IsIn p (point (coll starts) c) × (length word ≡ k) × Reads (automaton_at no_comps no_comps (comps_of r.steps) starts no_comps c) word p x

  -- the first k letters of the word lead to what was seen, and from there both accept the others
  abbrev pub IsAhead : Reached → ℕ → List Atom → List PointValue → Type 0
  IsAhead r k c word = (before after : List PointValue) × (word ≡ before ++ after) × (length before ≡ k) × ((x : PointValue) × IsIn x (seen_at r c) × FromBoth c x after)

  -- after k rounds
  pub record AreReached (k : ℕ) (r : Reached) : Type 0 where
    pub begins : (c : List Atom) → length c ≡ n → (x : PointValue) → IsIn x (point (coll starts) c) → IsIn x (seen_at r c)
    pub sound : (c : List Atom) → length c ≡ n → (y : PointValue) → IsIn y (steps_at r c) → (x : PointValue) × IsJointStep (point (coll t) c) (point (coll t') c) x y
    pub led : (c : List Atom) → length c ≡ n → (x : PointValue) → IsIn x (frontier_at r c) → IsLed r k c x
    pub closed : (c : List Atom) → length c ≡ n → (x y m w : PointValue) → IsIn x (seen_at r c) → IsJointStep (point (coll t) c) (point (coll t') c) x y → IsTriple y x m w → IsIn x (frontier_at r c) ⊎ IsIn w (seen_at r c)
    pub untold : HoldsThroughout n u (λ c. (x : PointValue) → IsIn x (seen_at r c) → IsPairIn (coll f) (coll f') c x → IsIn x (frontier_at r c))
    pub ahead : HoldsThroughout n u (λ c. (word : List PointValue) → Accepts (automaton_at s l t i f c) word → Accepts (automaton_at s' l' t' i' f' c) word → IsAhead r k c word)

  pub reached_first : ArePairs n (coll i) (coll i') (coll starts) → (r : Reached) → comps_of r.steps ≡ no_comps → comps_of r.seen ≡ starts → comps_of r.frontier ≡ starts → AreReached 0 r
  reached_first pairs r none seen frontier = record {
    begins = λ c k x h. subst (λ z. IsIn x (point (coll z) c)) (sym seen) h;
    sound = λ c k y h. absurd (nothing c y (subst (λ z. IsIn y (point (coll z) c)) none h));
    led = λ c k x h. (x, [], subst (λ z. IsIn x (point (coll z) c)) frontier h, refl, same_refl x);
    closed = λ c k x y m w h j tr. inl (same_set c x h);
    untold = λ c k h x j both. same_set c x j;
    ahead = λ c k h word acc acc'. front c k word acc acc';
  }
    where
      nothing : (c : List Atom) (y : PointValue) → IsIn y (point (coll no_comps) c) → ⊥
      nothing c y h = (among_in no_comps c y).1 h

      same_set : (c : List Atom) (x : PointValue) → IsIn x (seen_at r c) → IsIn x (frontier_at r c)
      same_set c x h = subst (λ z. IsIn x (point (coll z) c)) (seen ∙ sym frontier) h

      front : (c : List Atom) → length c ≡ n → (word : List PointValue) → Accepts (automaton_at s l t i f c) word → Accepts (automaton_at s' l' t' i' f' c) word → IsAhead r 0 c word
      front c k word (p, j, from) (q, j', from') =
          let x = pair_exists p q in
          ([], word, refl, refl, (x.0, subst (λ z. IsIn x.0 (point (coll z) c)) (sym seen) ((pairs c k x.0).1 (p, q, j, j', x.1)), (p, q, x.1, from, from')))

  -- what no further round changes
  module _ (k : ℕ) (r : Reached) (are : AreReached k r) (never : HoldsThroughout n u (λ c. (x : PointValue) → IsIn x (frontier_at r c) → IsPairIn (coll f) (coll f') c x → ⊥)) where
    -- no pair that was seen is one of accepting states
    not_told : (c : List Atom) → length c ≡ n → IsTrue (holds c u) → (x : PointValue) → IsIn x (seen_at r c) → FromBoth c x [] → ⊥
    not_told c j h x seen (p, q, pair, (p', final, same), (q', final', same')) =
        let both : IsPairIn (coll f) (coll f') c x = (p, q, pair, in_same p' p (point (coll f) c) (same_sym p p' same) final, in_same q' q (point (coll f') c) (same_sym q q' same') final') in
        never c j h x (are.untold c j h x seen both) both

    -- a step on
    step_on : (c : List Atom) → length c ≡ n → (x m : PointValue) (rest : List PointValue) → IsIn x (seen_at r c) → FromBoth c x (m ∷ rest) → (w : PointValue) × (IsNext (point (coll t) c) (point (coll t') c) (frontier_at r c) w ⊎ IsIn w (seen_at r c)) × FromBoth c w rest
    step_on c j x m rest seen (p, q, pair, (z, final, (p', step, reads)), (z', final', (q', step', reads'))) =
        let w = pair_exists p' q' in
        let y = triple_exists x m w.0 in
        let joint : IsJointStep (point (coll t) c) (point (coll t') c) x y.0 = (p, m, p', q, q', w.0, step, step', pair, w.1, y.1) in (
          w.0,
          elim (are.closed c j x y.0 m w.0 seen joint y.1) [
            | inl h ↦ inl (x, y.0, m, h, joint, y.1)
            | inr h ↦ inr h
          ],
          (p', q', w.1, (z, final, reads), (z', final', reads')),
        )

    -- the next round
    module _ (r' : Reached) (round : IsRound n (coll t) (coll t') r r') where
      led_on : (c : List Atom) → length c ≡ n → (w : PointValue) → IsNext (point (coll t) c) (point (coll t') c) (frontier_at r c) w → IsLed r' (k + 1) c w
      led_on c j w (x, y, m, h, joint, triple) = go (are.led c j x h)
        where
          go : IsLed r k c x → IsLed r' (k + 1) c w
          go (p, word, first, long, reads) =
              let a = automaton_at no_comps no_comps (comps_of r.steps) starts no_comps c in
              let b = automaton_at no_comps no_comps (comps_of r'.steps) starts no_comps c in
              let step : IsIn y (steps_at r' c) = (round.steps c j y).1 (inr (x, h, joint)) in
              (p, word ++ m ∷ [], first, omega (arith, long, length-append word (m ∷ [])), reads_on b word (m ∷ []) p x w (reads_more a b (λ z q. (round.steps c j z).1 (inl q)) word p x reads) (w, (y, step, triple), same_refl w))

      ahead_on : (c : List Atom) → length c ≡ n → IsTrue (holds c u) → (word : List PointValue) → IsAhead r k c word → IsAhead r' (k + 1) c word
      ahead_on c j h word (before, [], e, long, (x, seen, from)) = absurd (not_told c j h x seen from)
      ahead_on c j h word (before, m ∷ rest, e, long, (x, seen, from)) =
          let on = step_on c j x m rest seen from in
          (before ++ m ∷ [], rest, e ∙ sym (append_assoc before (m ∷ []) rest), omega (arith, long, length-append before (m ∷ [])), (on.0, (round.seen c j on.0).1 (elim on.1 [ inl p ↦ inr p | inr p ↦ inl p ]), on.2))

      pub reached_next : AreReached (k + 1) r'
      reached_next = record {
        begins = λ c j x h. (round.seen c j x).1 (inl (are.begins c j x h));
        sound = λ c j y h. elim ((round.steps c j y).0 h) [
          | inl p ↦ are.sound c j y p
          | inr p ↦ (p.0, p.2)
        ];
        led = λ c j x h. led_on c j x (round.only c j x h);
        closed = λ c j x y m w h joint triple. elim (round.new c j x h) [
          | inl p ↦ elim (are.closed c j x y m w p joint triple) [
            | inl q ↦ inr ((round.seen c j w).1 (inr (x, y, m, q, joint, triple)))
            | inr q ↦ inr ((round.seen c j w).1 (inl q))
          ]
          | inr p ↦ inl p
        ];
        untold = λ c j h x seen both. elim (round.new c j x seen) [
          | inl p ↦ absurd (never c j h x (are.untold c j h x p both) both)
          | inr p ↦ p
        ];
        ahead = λ c j h word acc acc'. ahead_on c j h word (are.ahead c j h word acc acc');
      }

    -- the last round
    pub none_common : ArePairs n (coll i) (coll i') (coll starts) → IsLastRound n (coll t) (coll t') r → HaveNoCommonWord n u (automaton_at s l t i f) (automaton_at s' l' t' i' f')
    none_common pairs last c j h word (p, first, from) (q, first', from') =
        let x = pair_exists p q in
        stuck word x.0 (are.begins c j x.0 ((pairs c j x.0).1 (p, q, first, first', x.1))) (p, q, x.1, from, from')
      where
        stuck : (rest : List PointValue) (x : PointValue) → IsIn x (seen_at r c) → FromBoth c x rest → ⊥
        stuck [] x seen both = not_told c j h x seen both
        stuck (m ∷ rest) x seen both =
            let on = step_on c j x m rest seen both in
            stuck rest on.0 (elim on.1 [ inl p ↦ last c j on.0 p | inr p ↦ p ]) on.2

  -- ---- the end
  module _ (k : ℕ) (r : Reached) (are : AreReached k r) (common : CompsD) (told : AreCommon n (coll (comps_of r.frontier)) (coll f) (coll f') (coll common)) where
    abbrev Explored : List Atom → Automaton
    Explored = automaton_at no_comps no_comps (comps_of r.steps) starts common

    step_of_both : (c : List Atom) → length c ≡ n → (x m w p q : PointValue) → IsPair x p q → HasStep (Explored c) x m w →
        (p' q' : PointValue) × HasStep (automaton_at s l t i f c) p m p' × HasStep (automaton_at s' l' t' i' f' c) q m q' × IsPair w p' q'
    step_of_both c j x m w p q pair (y, h, triple) = go (are.sound c j y h)
      where
        go : ((x0 : PointValue) × IsJointStep (point (coll t) c) (point (coll t') c) x0 y) → (p' q' : PointValue) × HasStep (automaton_at s l t i f c) p m p' × HasStep (automaton_at s' l' t' i' f' c) q m q' × IsPair w p' q'
        go (x0, (p0, m0, p1, q0, q1, x1, one, two, from, to, other)) =
            let both = triple_both y x m w x0 m0 x1 triple other in
            let parts = pair_both x x0 p q p0 q0 both.0 pair from in (
              p1,
              q1,
              step_move (automaton_at s l t i f c) p0 m0 p1 p m p1 (same_sym p p0 parts.0) (same_sym m m0 both.1) (same_refl p1) one,
              step_move (automaton_at s' l' t' i' f' c) q0 m0 q1 q m q1 (same_sym q q0 parts.1) (same_sym m m0 both.1) (same_refl q1) two,
              pair_to x1 w p1 q1 (same_sym w x1 both.2) to,
            )

    reads_both : (c : List Atom) → length c ≡ n → (word : List PointValue) (x z p q p' q' : PointValue) → IsPair x p q → IsPair z p' q' → Reads (Explored c) word x z → Reads (automaton_at s l t i f c) word p p' × Reads (automaton_at s' l' t' i' f' c) word q q'
    reads_both c j [] x z p q p' q' from to h = pair_both x z p q p' q' h from to
    reads_both c j (m ∷ word) x z p q p' q' from to (w, step, rest) =
        let next = step_of_both c j x m w p q from step in
        let later = reads_both c j word w z next.0 next.1 p' q' next.4 to rest in
        ((next.0, next.2, later.0), (next.1, next.3, later.1))

    accepts_both : ArePairs n (coll i) (coll i') (coll starts) → (c : List Atom) → length c ≡ n → (word : List PointValue) → Accepts (Explored c) word → Accepts (automaton_at s l t i f c) word × Accepts (automaton_at s' l' t' i' f' c) word
    accepts_both pairs c j word (x, first, (z, final, reads)) =
        let start = (pairs c j x).0 first in
        let end = ((told c j z).0 final).1 in
        let both = reads_both c j word x z start.0 start.1 end.0 end.1 start.4 end.2 reads in
        ((start.0, start.2, (end.0, end.3, both.0)), (start.1, start.3, (end.1, end.4, both.1)))

    pub leads : ArePairs n (coll i) (coll i') (coll starts) → (c : List Atom) → length c ≡ n → IsTrue (holds c u) → (x : PointValue) → IsIn x (point (coll common) c) → LeadsToCommon n u (automaton_at s l t i f) (automaton_at s' l' t' i' f') (automaton_at no_comps no_comps (comps_of r.steps) starts common)
    leads pairs c j h x is = record {
      words = accepts_both pairs;
      count = k;
      some = (c, j, h, go (are.led c j x ((told c j x).0 is).0));
      least = λ d j' h' word acc acc'. bound d word (are.ahead d j' h' word acc acc');
    }
      where
        go : IsLed r k c x → (word : List PointValue) × (length word ≡ k) × Accepts (Explored c) word
        go (p, word, first, long, reads) =
            (word, long, (p, first, (x, is, reads_more (automaton_at no_comps no_comps (comps_of r.steps) starts no_comps c) (Explored c) (λ z q. q) word p x reads)))

        bound : (d : List Atom) (word : List PointValue) → IsAhead r k d word → k ≤ length word
        bound d word (before, after, e, long, rest) = omega (arith, long, ap length e, length-append before after)

-- where no pair of accepting states is among those of a round
pub never_told : (n : ℕ) (u : List (List Lit)) (pairs common : CompsD) (one other : TermD) → AreCommon n (coll pairs) one other (coll common) → HasNoInitialState n u (IsAmong common) (coll common) → HoldsThroughout n u (λ c. (x : PointValue) → IsIn x (point (coll pairs) c) → IsPairIn one other c x → ⊥)
never_told n u pairs common one other told none c j h x i both =
    let here = (told c j x).1 (i, both) in
    none c j h x ((among_in common c x).1 here) here

-- the choice of a sample at which there is one
pub met_at : (n : ℕ) (u : List (List Lit)) (common : CompsD) (layer : TermD) (stage : SymbolicState) → IsInitialSymbolicState n u (IsAmong common) layer stage →
    (c : List Atom) × (length c ≡ n) × IsTrue (holds c u) × ((x : PointValue) × IsIn x (point (coll common) c))
met_at n u common layer stage is =
    let count = is.stage.met.0.count in
    let lc = first_length n stage.more stage.sample count in
    let le = other_length n stage.more stage.sample count in
    let c = sampled (take n stage.sample) in
    let e = sampled (drop n stage.sample) in
    let here : IsTrue (holds (c ++ e) stage.admitted) = subst (λ z. IsTrue (holds z stage.admitted)) (sym (whole_sample n stage.more stage.sample count)) is.stage.met.1 in
    let at = is.begins c e lc le here in
    let x = point (tree stage.state) (c ++ e) in
    (c, lc, at.0, (x, (among_in common c x).0 at.1))
