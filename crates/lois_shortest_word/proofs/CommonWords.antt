-- Words that two automata accept, as their terms say it.
use Rattle.std.proofs.Common.{◌≡◌, ℕ, ◌≤◌, ◌↔◌, List, length, take, Some, ◌∙◌, arith}
use Rattle.std.proofs.lemmas.List.{length-map, length-take-le}
use Rattle.std.specs.Prelude.{IsNone}
use Rattle.lois_base.specs.Atom.{Atom, whole}
use Rattle.lois_base.specs.Data.{TermD, CompsD}
use Rattle.lois_base.specs.Truth.{sampled}
use Rattle.lois_base.specs.declared.guards.Lit.{Lit}
use Rattle.lois_meaning.specs.Automata.{Automaton}
use Rattle.lois_automata.specs.Projections.{five_of, automaton_at}
use Rattle.lois_automata.specs.Machines.{IsAutomatonAt}
use Rattle.lois_automata.specs.Throughout.{HoldsThroughout}
use Rattle.lois_shortest_word.specs.Common.{AcceptNoneInCommon, IsShortestCommonWord}
use Rattle.lois_shortest_word.specs.Rounds.{HaveNoCommonWord, LeadsToCommon}
use Rattle.lois_shortest_word.specs.Walks.{IsWordOf}
use Rattle.lois_shortest_word.specs.Words.{values_at, first_sampled, AreUsedBetween}
use Rattle.lois_shortest_word.specs.declared.words.Word.{Word}
use Rattle.lois_shortest_word.proofs.Ends.{machine_is, accepts_here}

module _ (a b : TermD) (s l t i f s' l' t' i' f' : CompsD) (is : a ≡ five_of s l t i f) (is' : b ≡ five_of s' l' t' i' f') (n : ℕ) (u : List (List Lit)) (automaton : HoldsThroughout n u (IsAutomatonAt a)) (other : HoldsThroughout n u (IsAutomatonAt b)) where
  pub none_in_common : HaveNoCommonWord n u (automaton_at s l t i f) (automaton_at s' l' t' i' f') → AcceptNoneInCommon n u a b
  none_in_common never c k h word both = never c k h word (accepts_here a s l t i f is n u automaton c word both.0) (accepts_here b s' l' t' i' f' is' n u other c word both.1)

  pub common_word : (m : List Atom → Automaton) (w : Word) → LeadsToCommon n u (automaton_at s l t i f) (automaton_at s' l' t' i' f') m → IsWordOf n u m w → AreUsedBetween n (length w.sample) w.letters → IsShortestCommonWord n u a b w
  common_word m w leads h used =
      let c = first_sampled n w.sample in
      let k : length c ≡ n = first_count h.count in
      let word = values_at (sampled w.sample) w.letters in
      let both = leads.words c k word h.accepted in
      record {
        count = h.count;
        admitted = h.admitted;
        levels = h.levels;
        accepted = ((automaton_at s l t i f c, machine_is a s l t i f is n u automaton c k h.admitted, both.0), (automaton_at s' l' t' i' f' c, machine_is b s' l' t' i' f' is' n u other c k h.admitted, both.1));
        shortest = λ d j x v accept.
            let some = leads.some in
            let bound = leads.least d j x v (accepts_here a s l t i f is n u automaton d v accept.0) (accepts_here b s' l' t' i' f' is' n u other d v accept.1) in
            omega (arith, bound, some.3.1, h.shortest some.0 some.1 some.2 some.3.0 some.3.2);
        used = used;
      }
    where
      first_count : n ≤ length w.sample → length (first_sampled n w.sample) ≡ n
      first_count le = length-map (take n w.sample) whole ∙ length-take-le n w.sample le

  pub some_is_common : (w : Word) → IsShortestCommonWord n u a b w → IsNone (Some w) ↔ AcceptNoneInCommon n u a b
  some_is_common w h = (
    λ e. absurd cc,
    λ none. absurd (none (first_sampled n w.sample) (length-map (take n w.sample) whole ∙ length-take-le n w.sample h.count) h.admitted (values_at (sampled w.sample) w.letters) h.accepted),
  )
