-- Pairs of states, refined round by round to those that no word tells apart.
use Rattle.std.proofs.Common.{◌≤◌, List, [], ◌∷◌, length, ◌⊎◌, inl, inr, ◌↔◌, arith}
use Rattle.lois_base.specs.Atom.{Atom}
use Rattle.lois_base.specs.Data.{CompD, no_comps, coll, comps_of}
use Rattle.lois_base.specs.Values.{PointValue, point, IsSame, IsIn}
use Rattle.lois_base.proofs.Members.{same_refl, same_sym, in_same}
use Rattle.lois_algebra.proofs.Among.{among_in}
use Rattle.lois_meaning.specs.Automata.{Automaton, IsAutomatonOf, IsPair, HasStep, AcceptsFrom, IsReachable, IsDeterministic, IsComplete, HaveSameWords}
use Rattle.lois_meaning.specs.Kinds.{IsSetOf}
use Rattle.lois_meaning.proofs.Automata.{accepts_from_same, step_same}
use Rattle.lois_meaning.proofs.Operations.{words_sym, reach_step, pair_exists, pair_both}
use Rattle.lois_meaning.proofs.Tuples.{pair_parts}
use Rattle.lois_automata.specs.Reachability.{LeadsTo}
use Rattle.lois_automata.proofs.Paths.{machine_refl, letter_in, reached_state}
use Rattle.lois_automata.specs.Adding.{IsMadeOfOne}
use Rattle.lois_minimise.specs.Classes.{AreIndistinguishable, IsSplit, IsAlike, IsPartition, AreSplitPairs, AreBackward, AreBothWays, IsBefore, IsInOrder, IsOrderedPair}
use Rattle.lois_minimise.proofs.Ordered.{before_same, before_or, turned_before, ordered_to, ordered_exists}

final_of : (a : Automaton) (q : PointValue) → AcceptsFrom a q [] → IsIn q a.final
final_of a q (f, is, s) = in_same f q a.final (same_sym q f s) is

-- a letter leads on from states with the same words to states with the same words
words_after : (a : Automaton) (l p q p' q' : PointValue) → IsDeterministic a → HasStep a p l p' → HasStep a q l q' → HaveSameWords a p q → (word : List PointValue) → AcceptsFrom a p' word → AcceptsFrom a q' word
words_after a l p q p' q' one sp sq same word (f, is, reads) =
    let there : AcceptsFrom a q (l ∷ word) = (same (l ∷ word)).0 (f, is, (p', sp, reads)) in
    let r = there.2.0 in
    accepts_from_same a a word r q' (machine_refl a) (one.1 q l r q' there.2.1 sq) (there.0, there.1, there.2.2)

same_after : (a : Automaton) (l p q p' q' : PointValue) → IsDeterministic a → HasStep a p l p' → HasStep a q l q' → HaveSameWords a p q → HaveSameWords a p' q'
same_after a l p q p' q' one sp sq same word = (
  words_after a l p q p' q' one sp sq same word,
  words_after a l q p q' p' one sq sp (words_sym a p q same) word,
)

-- From the pairs that the last round took away not the same words are accepted. The others are pairs of reachable states, in order,
-- that are both final or both not, among them all from which the same words are accepted. A letter leads from them to one of the two.
pub record AreCompared (a : Automaton) (apart alike : PointValue) : Type 0 where
  pub differ : (x p q : PointValue) → IsIn x apart → IsPair x p q → HaveSameWords a p q → ⊥
  pub same : (x p q : PointValue) → IsPair x p q → IsBefore p q → IsReachable a p → IsReachable a q → HaveSameWords a p q → IsIn x alike
  pub ordered : (x p q : PointValue) → IsIn x alike → IsPair x p q → IsBefore p q
  pub reached : (x p q : PointValue) → IsIn x alike → IsPair x p q → IsReachable a p × IsReachable a q
  pub finals : (x p q : PointValue) → IsIn x alike → IsPair x p q → IsAlike a.final p q
  pub led : (x x' p q l p' q' : PointValue) → IsIn x alike → IsPair x p q → HasStep a p l p' → HasStep a q l q' → IsOrderedPair x' p' q' → IsIn x' apart ⊎ IsIn x' alike

-- a list without comprehensions has no members
pub nothing_in : (ks : List CompD) → length ks ≤ 0 → (c : List Atom) (w : PointValue) → IsIn w (point (coll (comps_of ks)) c) → ⊥
nothing_in [] l c w i = (among_in no_comps c w).1 i
nothing_in (k ∷ ks) l c w i = absurd (omega (arith, l))

-- ---- the first pairs
module _ (a : Automaton) (nodes all_apart all_alike apart alike : PointValue) (reached : IsSetOf nodes (IsReachable a)) (split : AreSplitPairs nodes a.final all_apart all_alike)
    (apart_ordered : (w : PointValue) → IsIn w apart ↔ IsMadeOfOne IsInOrder (λ x. IsIn x all_apart) w) (alike_ordered : (w : PointValue) → IsIn w alike ↔ IsMadeOfOne IsInOrder (λ x. IsIn x all_alike) w) where
  in_nodes : (p p' : PointValue) → IsSame p p' → IsIn p nodes → IsReachable a p'
  in_nodes p p' s i = (reached.1 p').0 (in_same p p' nodes s i)

  final_same : (p p' : PointValue) → IsSame p p' → IsIn p a.final → IsIn p' a.final
  final_same p p' s i = in_same p p' a.final s i

  split_same : (p q p' q' : PointValue) → IsSame p p' → IsSame q q' → IsSplit a.final p q → IsSplit a.final p' q'
  split_same p q p' q' s t h = elim h [
    | inl k ↦ inl (final_same p p' s k.0, λ i. k.1 (final_same q' q (same_sym q q' t) i))
    | inr k ↦ inr (final_same q q' t k.0, λ i. k.1 (final_same p' p (same_sym p p' s) i))
  ]

  alike_same : (p q p' q' : PointValue) → IsSame p p' → IsSame q q' → IsAlike a.final p q → IsAlike a.final p' q'
  alike_same p q p' q' s t h = elim h [
    | inl k ↦ inl (final_same p p' s k.0, final_same q q' t k.1)
    | inr k ↦ inr (λ i. k.0 (final_same p' p (same_sym p p' s) i), λ i. k.1 (final_same q' q (same_sym q q' t) i))
  ]

  alike_parts : (x p q : PointValue) → IsIn x alike → IsPair x p q → IsReachable a p × IsReachable a q × IsAlike a.final p q
  alike_parts x p q i pair =
      let k = (alike_ordered x).0 i in
      let f = (split.within x).0 (in_same k.0 x all_alike k.2.0 k.1) in
      let both : IsSame f.0 p × IsSame f.1 q = pair_both x x f.0 f.1 p q (same_refl x) f.5 pair in
      (in_nodes f.0 p both.0 f.2, in_nodes f.1 q both.1 f.3, alike_same f.0 f.1 p q both.0 both.1 f.4)

  apart_parts : (x p q : PointValue) → IsIn x apart → IsPair x p q → IsSplit a.final p q
  apart_parts x p q i pair =
      let k = (apart_ordered x).0 i in
      let f = (split.across x).0 (in_same k.0 x all_apart k.2.0 k.1) in
      let both : IsSame f.0 p × IsSame f.1 q = pair_both x x f.0 f.1 p q (same_refl x) f.5 pair in
      split_same f.0 f.1 p q both.0 both.1 f.4

  -- whether both are final can be told
  sorted : (p q : PointValue) → IsReachable a p → IsReachable a q → IsSplit a.final p q ⊎ IsAlike a.final p q
  sorted p q rp rq = elim (split.decided p ((reached.1 p).1 rp)) [
    | inl f ↦ elim (split.decided q ((reached.1 q).1 rq)) [
      | inl k ↦ inr (inl (f, k))
      | inr k ↦ inl (inl (f, k))
    ]
    | inr f ↦ elim (split.decided q ((reached.1 q).1 rq)) [
      | inl k ↦ inl (inr (k, f))
      | inr k ↦ inr (inr (f, k))
    ]
  ]

  split_differ : (p q : PointValue) → IsSplit a.final p q → HaveSameWords a p q → ⊥
  split_differ p q h same = elim h [
    | inl s ↦ s.1 (final_of a q ((same []).0 (p, s.0, same_refl p)))
    | inr s ↦ s.1 (final_of a p ((same []).1 (q, s.0, same_refl q)))
  ]

  placed : (x p q : PointValue) → IsPair x p q → IsBefore p q → IsReachable a p → IsReachable a q → IsIn x apart ⊎ IsIn x alike
  placed x p q pair order rp rq = elim (sorted p q rp rq) [
    | inl h ↦ inl ((apart_ordered x).1 (x, (split.across x).1 (p, q, (reached.1 p).1 rp, (reached.1 q).1 rq, h, pair), (same_refl x, (p, q, pair, order))))
    | inr h ↦ inr ((alike_ordered x).1 (x, (split.within x).1 (p, q, (reached.1 p).1 rp, (reached.1 q).1 rq, h, pair), (same_refl x, (p, q, pair, order))))
  ]

  placed_ordered : (x p q : PointValue) → IsOrderedPair x p q → IsReachable a p → IsReachable a q → IsIn x apart ⊎ IsIn x alike
  placed_ordered x p q h rp rq = elim h [
    | inl k ↦ placed x p q k.1 k.0 rp rq
    | inr k ↦ placed x q p k.1 (turned_before p q k.0) rq rp
  ]

  in_order : (x p q : PointValue) → IsIn x alike → IsPair x p q → IsBefore p q
  in_order x p q i pair =
      let k = (alike_ordered x).0 i in
      let h = k.2.1 in
      let both : IsSame h.0 p × IsSame h.1 q = pair_both k.0 x h.0 h.1 p q k.2.0 h.2 pair in
      before_same h.0 h.1 p q both.0 both.1 h.3

  pub first_compared : AreCompared a apart alike
  first_compared = record {
    differ = λ x p q i pair same. split_differ p q (apart_parts x p q i pair) same;
    same = λ x p q pair order rp rq same. elim (placed x p q pair order rp rq) [
      | inl i ↦ absurd (split_differ p q (apart_parts x p q i pair) same)
      | inr i ↦ i
    ];
    ordered = in_order;
    reached = λ x p q i pair. let h = alike_parts x p q i pair in (h.0, h.1);
    finals = λ x p q i pair. (alike_parts x p q i pair).2;
    led = λ x x' p q l p' q' i pair sp sq pair'.
        let h = alike_parts x p q i pair in
        placed_ordered x' p' q' pair' (reach_step a p l p' h.0 sp) (reach_step a q l q' h.1 sq);
  }

-- ---- one round
module _ (a : Automaton) (moves apart alike told apart' alike' : PointValue) (one : IsDeterministic a) (back : AreBackward a.steps moves) (only_led : (w : PointValue) → IsIn w told → (p : PointValue) × IsIn p apart × LeadsTo moves p w) (all_led : (p w : PointValue) → IsIn p apart → LeadsTo moves p w → IsIn w alike → IsIn w told) (parted : IsPartition alike told apart' alike') (before : AreCompared a apart alike) where
  -- one move back
  move_back : (x' x p q : PointValue) → IsPair x p q → LeadsTo moves x' x → (l p' q' : PointValue) × HasStep a p l p' × HasStep a q l q' × IsOrderedPair x' p' q'
  move_back x' x p q pair (y, i, lead) =
      let f = (back y).0 i in
      let h = f.4 in
      go h.5 h.6 h.0 h.1 h.3 h.2 h.4 (f.0, f.2, h.7) (f.1, f.3, h.8) h.11 h.10 h.12
    where
      go : (x0 x1 p0 l q0 p1 q1 : PointValue) → HasStep a p0 l p1 → HasStep a q0 l q1 → IsOrderedPair x1 p1 q1 → IsPair x0 p0 q0 → IsPair y x1 x0 →
          (l p' q' : PointValue) × HasStep a p l p' × HasStep a q l q' × IsOrderedPair x' p' q'
      go x0 x1 p0 l q0 p1 q1 sp sq to from both =
          let ends : IsSame x1 x' × IsSame x0 x = pair_both y y x1 x0 x' x (same_refl y) both lead in
          let parts : IsSame p0 p × IsSame q0 q = pair_both x0 x p0 q0 p q ends.1 from pair in (
            l,
            p1,
            q1,
            step_same a a p0 l p1 p l p1 (machine_refl a) parts.0 (same_refl l) (same_refl p1) sp,
            step_same a a q0 l q1 q l q1 (machine_refl a) parts.1 (same_refl l) (same_refl q1) sq,
            ordered_to x1 x' p1 q1 ends.0 to,
          )

  now_differ : (x p q : PointValue) → IsIn x apart' → IsPair x p q → HaveSameWords a p q → ⊥
  now_differ x p q i pair same =
      let t = only_led x ((parted.inner x).0 i).1 in
      let m : (l p' q' : PointValue) × HasStep a p l p' × HasStep a q l q' × IsOrderedPair t.0 p' q' = move_back t.0 x p q pair t.2 in
      let after : HaveSameWords a m.1 m.2 = same_after a m.0 p q m.1 m.2 one m.3 m.4 same in
      elim m.5 [
        | inl k ↦ before.differ t.0 m.1 m.2 t.1 k.1 after
        | inr k ↦ before.differ t.0 m.2 m.1 t.1 k.1 (words_sym a m.1 m.2 after)
      ]

  leads_back : (x x' p q l p' q' : PointValue) → IsPair x p q → IsBefore p q → HasStep a p l p' → HasStep a q l q' → IsOrderedPair x' p' q' → LeadsTo moves x' x
  leads_back x x' p q l p' q' pair order sp sq pair' =
      let y : (y : PointValue) × IsPair y x' x = pair_exists x' x in
      (y.0, (back y.0).1 (sp.0, sq.0, sp.1, sq.1, (p, l, p', q, q', x, x', sp.2, sq.2, order, pair, pair', y.1)), y.1)

  pub next_compared : AreCompared a apart' alike'
  next_compared = record {
    differ = now_differ;
    same = λ x p q pair order rp rq same. elim (parted.each x (before.same x p q pair order rp rq same)) [
      | inl i ↦ absurd (now_differ x p q i pair same)
      | inr i ↦ i
    ];
    ordered = λ x p q i pair. before.ordered x p q ((parted.outer x).0 i).0 pair;
    reached = λ x p q i pair. before.reached x p q ((parted.outer x).0 i).0 pair;
    finals = λ x p q i pair. before.finals x p q ((parted.outer x).0 i).0 pair;
    led = λ x x' p q l p' q' i pair sp sq pair'.
        let h = (parted.outer x).0 i in
        elim (before.led x x' p q l p' q' h.0 pair sp sq pair') [
          | inl k ↦ absurd (h.1 (all_led x' x k (leads_back x x' p q l p' q' pair (before.ordered x p q h.0 pair) sp sq pair') h.0))
          | inr k ↦ parted.each x' k
        ];
  }

-- ---- where no pair was taken away
module _ (v : PointValue) (a : Automaton) (is : IsAutomatonOf v a) (whole : IsComplete a) (apart alike both : PointValue) (none : (x : PointValue) → IsIn x apart → ⊥) (ways : AreBothWays alike both) (compared : AreCompared a apart alike) where
  leads_on : (x x' p q l p' q' : PointValue) → IsIn x alike → IsPair x p q → HasStep a p l p' → HasStep a q l q' → IsOrderedPair x' p' q' → IsIn x' alike
  leads_on x x' p q l p' q' i pair sp sq pair' = elim (compared.led x x' p q l p' q' i pair sp sq pair') [
    | inl k ↦ absurd (none x' k)
    | inr k ↦ k
  ]

  -- what is said of both directions of a pair in order is said of the two in either order
  either_order : (p' q' : PointValue) (P Q : Type 0) → ((x' : PointValue) → IsOrderedPair x' p' q' → IsIn x' alike) → ((x' : PointValue) → IsIn x' alike → IsPair x' p' q' → (P → Q) × (Q → P)) → ((x' : PointValue) → IsIn x' alike → IsPair x' q' p' → (Q → P) × (P → Q)) → (P → Q) × (Q → P)
  either_order p' q' P Q found one other =
      let x' = ordered_exists p' q' in
      elim x'.1 [
        | inl k ↦ one x'.0 (found x'.0 x'.1) k.1
        | inr k ↦ let h = other x'.0 (found x'.0 x'.1) k.1 in (h.1, h.0)
      ]

  words_both : (word : List PointValue) (x p q : PointValue) → IsIn x alike → IsPair x p q → (AcceptsFrom a p word → AcceptsFrom a q word) × (AcceptsFrom a q word → AcceptsFrom a p word)
  words_both [] x p q i pair = elim (compared.finals x p q i pair) [
    | inl h ↦ (λ _. (q, h.1, same_refl q), λ _. (p, h.0, same_refl p))
    | inr h ↦ (λ k. absurd (h.0 (final_of a p k)), λ k. absurd (h.1 (final_of a q k)))
  ]
  words_both (l ∷ word) x p q i pair = (there (λ x' p' q'. words_both word x' p' q'), back (λ x' p' q'. words_both word x' p' q'))
    where
      later : ((x' p' q' : PointValue) → IsIn x' alike → IsPair x' p' q' → (AcceptsFrom a p' word → AcceptsFrom a q' word) × (AcceptsFrom a q' word → AcceptsFrom a p' word)) → (p' q' : PointValue) → HasStep a p l p' → HasStep a q l q' → (AcceptsFrom a p' word → AcceptsFrom a q' word) × (AcceptsFrom a q' word → AcceptsFrom a p' word)
      later before p' q' sp sq =
          either_order p' q' (AcceptsFrom a p' word) (AcceptsFrom a q' word) (λ x' pair'. leads_on x x' p q l p' q' i pair sp sq pair') (λ x' k pair'. before x' p' q' k pair') (λ x' k pair'. before x' q' p' k pair')

      there : ((x' p' q' : PointValue) → IsIn x' alike → IsPair x' p' q' → (AcceptsFrom a p' word → AcceptsFrom a q' word) × (AcceptsFrom a q' word → AcceptsFrom a p' word)) → AcceptsFrom a p (l ∷ word) → AcceptsFrom a q (l ∷ word)
      there before (f, k, (p', sp, rest)) =
          let step : (q' : PointValue) × HasStep a q l q' = whole q l (reached_state v a is q (compared.reached x p q i pair).1) (letter_in v a is p l p' sp) in
          let on : AcceptsFrom a step.0 word = (later before p' step.0 sp step.1).0 (f, k, rest) in
          (on.0, on.1, (step.0, step.1, on.2))

      back : ((x' p' q' : PointValue) → IsIn x' alike → IsPair x' p' q' → (AcceptsFrom a p' word → AcceptsFrom a q' word) × (AcceptsFrom a q' word → AcceptsFrom a p' word)) → AcceptsFrom a q (l ∷ word) → AcceptsFrom a p (l ∷ word)
      back before (f, k, (q', sq, rest)) =
          let step : (p' : PointValue) × HasStep a p l p' = whole p l (reached_state v a is p (compared.reached x p q i pair).0) (letter_in v a is q l q' sq) in
          let on : AcceptsFrom a step.0 word = (later before step.0 q' step.1 sq).1 (f, k, rest) in
          (on.0, on.1, (step.0, step.1, on.2))

  told : (x p q : PointValue) → IsIn x alike → IsPair x p q → IsReachable a p × IsReachable a q × HaveSameWords a p q
  told x p q i pair =
      let r = compared.reached x p q i pair in
      (r.0, r.1, λ word. words_both word x p q i pair)

  led_there : (p q : PointValue) → LeadsTo both p q → IsReachable a p × IsReachable a q × HaveSameWords a p q
  led_there p q (y, i, pair) = elim ((ways y).0 i) [
    | inl k ↦ told y p q k pair
    | inr k ↦
        let f = k.2 in
        let ends : IsSame f.1 p × IsSame f.0 q = pair_both y y f.1 f.0 p q (same_refl y) f.3 pair in
        let h = told k.0 q p k.1 (pair_parts k.0 f.0 f.1 q p ends.1 ends.0 f.2) in
        (h.1, h.0, words_sym a q p h.2)
  ]

  led_back : (p q : PointValue) → IsReachable a p → IsReachable a q → HaveSameWords a p q → LeadsTo both p q
  led_back p q rp rq same =
      let y : (y : PointValue) × IsPair y p q = pair_exists p q in
      elim (before_or p q) [
        | inl h ↦ (y.0, (ways y.0).1 (inl (compared.same y.0 p q y.1 h rp rq same)), y.1)
        | inr h ↦
            let x : (x : PointValue) × IsPair x q p = pair_exists q p in
            (y.0, (ways y.0).1 (inr (x.0, compared.same x.0 q p x.1 (turned_before p q h) rq rp (words_sym a p q same), (q, p, x.1, y.1, h))), y.1)
      ]

  pub indistinguishable : AreIndistinguishable a both
  indistinguishable p q = (led_there p q, λ h. led_back p q h.0 h.1 h.2)
