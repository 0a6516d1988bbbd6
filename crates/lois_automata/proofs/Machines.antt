-- What products and complements of automata are, and where an automaton accepts no word.
use Rattle.std.proofs.Common.{◌↔◌, List, [], ◌∷◌}
use Rattle.lois_base.specs.Values.{PointValue, IsIn}
use Rattle.lois_base.proofs.Members.{same_refl}
use Rattle.lois_meaning.specs.Automata.{Automaton, IsPair, IsTriple, JoinsStates, IsAutomatonOf, HasStep, Accepts, IsReachable, IsProductOf, IsComplementOf}
use Rattle.lois_meaning.specs.Kinds.{IsSet, HasParts}
use Rattle.lois_meaning.proofs.Operations.{accepts_by_reach}
use Rattle.lois_automata.proofs.Paths.{source_in, letter_in, target_in}

module _ (v w : PointValue) (a b m : Automaton) (is : IsAutomatonOf v a) (is' : IsAutomatonOf w b) (made : IsProductOf m a b) where
  pair_in : (s p q : PointValue) → IsPair s p q → IsIn p a.states → IsIn q b.states → IsIn s m.states
  pair_in s p q h i j = (made.states.1 s).1 (p, q, i, j, h)

  joins : (x : PointValue) → IsIn x m.steps → JoinsStates x m
  joins x i = go ((made.steps.1 x).0 i)
    where
      go : ((p l p' q q' s s' : PointValue) × HasStep a p l p' × HasStep b q l q' × IsPair s p q × IsPair s' p' q' × IsTriple x s l s') → JoinsStates x m
      go (p, l, p', q, q', s, s', step, step', h, h', t) = (
        s,
        l,
        s',
        t,
        pair_in s p q h (source_in v a is p l p' step) (source_in w b is' q l q' step'),
        (made.letters.1 l).1 (letter_in v a is p l p' step, letter_in w b is' q l q' step'),
        pair_in s' p' q' h' (target_in v a is p l p' step) (target_in w b is' q l q' step'),
      )

  pub product_automaton : (r : PointValue) → HasParts r (m.states ∷ m.letters ∷ m.steps ∷ m.initial ∷ m.final ∷ []) → IsAutomatonOf r m
  product_automaton r parts = record {
    five = parts;
    states_set = made.states.0;
    letters_set = made.letters.0;
    steps_set = made.steps.0;
    initial_set = made.initial.0;
    final_set = made.final.0;
    steps_join = joins;
    initial_states = λ x i. let h = (made.initial.1 x).0 i in pair_in x h.0 h.1 h.4 (is.initial_states h.0 h.2) (is'.initial_states h.1 h.3);
    final_states = λ x i. let h = (made.final.1 x).0 i in pair_in x h.0 h.1 h.4 (is.final_states h.0 h.2) (is'.final_states h.1 h.3);
  }

-- the automaton with other final states
abbrev pub with_final : Automaton → PointValue → Automaton
with_final a final = record { states = a.states; letters = a.letters; steps = a.steps; initial = a.initial; final = final }

module _ (v : PointValue) (a : Automaton) (is : IsAutomatonOf v a) (final : PointValue) (set : IsSet final) (others : (x : PointValue) → IsIn x final ↔ (IsIn x a.states × (IsIn x a.final → ⊥))) where
  pub is_complement : IsComplementOf (with_final a final) a
  is_complement = record {
    states = same_refl a.states;
    letters = same_refl a.letters;
    steps = same_refl a.steps;
    initial = same_refl a.initial;
    final = (set, others);
  }

  pub complement_automaton : (r : PointValue) → HasParts r (a.states ∷ a.letters ∷ a.steps ∷ a.initial ∷ final ∷ []) → IsAutomatonOf r (with_final a final)
  complement_automaton r parts = record {
    five = parts;
    states_set = is.states_set;
    letters_set = is.letters_set;
    steps_set = is.steps_set;
    initial_set = is.initial_set;
    final_set = set;
    steps_join = is.steps_join;
    initial_states = is.initial_states;
    final_states = λ x i. ((others x).0 i).0;
  }

-- some reachable state is final exactly where some word is accepted
pub accepts_some : (a : Automaton) (reached found : PointValue) → ((x : PointValue) → IsIn x reached ↔ IsReachable a x) → ((x : PointValue) → IsIn x found ↔ (IsIn x reached × IsIn x a.final)) → ((x : PointValue) × IsIn x found) ↔ ((word : List PointValue) × Accepts a word)
accepts_some a reached found are both = (
  λ h. let i = (both h.0).0 h.1 in (accepts_by_reach a).1 (h.0, (are h.0).0 i.0, i.1),
  λ h. let q = (accepts_by_reach a).0 h in (q.0, (both q.0).1 ((are q.0).1 q.1, q.2)),
)
