-- The end of the way: a word that is accepted, and none is shorter.
use Rattle.std.proofs.Common.{◌≡◌, ℕ, ◌+◌, List, [], ◌∷◌, ◌++◌, length, take, drop, append-nil, sym, ap, ◌∙◌, subst, arith}
use Rattle.std.specs.Bool.{IsTrue}
use Rattle.std.specs.List.{All}
use Rattle.lois_base.specs.Atom.{Atom}
use Rattle.lois_base.specs.Data.{TermD, CompsD}
use Rattle.lois_base.specs.Fits.{Fits}
use Rattle.lois_base.specs.Tree.{tree}
use Rattle.lois_base.specs.Truth.{holds, sampled}
use Rattle.lois_base.specs.Values.{PointValue, point}
use Rattle.lois_base.specs.declared.guards.Lit.{Lit}
use Rattle.lois_meaning.specs.Automata.{Automaton, IsAutomatonOf, Accepts}
use Rattle.lois_automata.specs.Projections.{five_of, automaton_at}
use Rattle.lois_automata.specs.Machines.{IsAutomatonAt}
use Rattle.lois_automata.specs.Throughout.{HoldsThroughout}
use Rattle.lois_automata.proofs.FiveMachine.{five_equal, five_machine}
use Rattle.lois_shortest_word.specs.Layers.{AcceptsIn}
use Rattle.lois_shortest_word.specs.Walks.{IsOnWay, IsWay, HaveAtLeast, IsWordOf}
use Rattle.lois_shortest_word.specs.Words.{AcceptsAt, values_at, first_sampled, AreUsedBetween}
use Rattle.lois_shortest_word.specs.Shortest.{IsShortestWord}
use Rattle.lois_shortest_word.specs.declared.symbolic_states.SymbolicState.{SymbolicState}
use Rattle.lois_shortest_word.specs.declared.words.Word.{Word}
use Rattle.lois_shortest_word.proofs.Choices.{first_count, first_length, other_length, whole_sample}
use Rattle.lois_shortest_word.proofs.Readings.{accepted_letters}

module _ (n : ℕ) (u : List (List Lit)) (m : List Atom → Automaton) (stage : SymbolicState) (w : Word) (way : IsWay n u m 0 w.letters stage) (sample : w.sample ≡ stage.sample) where
  pub word_ends : HaveAtLeast n u m (length w.letters) → IsWordOf n u m w
  word_ends least = record {
    count = omega (arith, count);
    admitted = way.admitted c e lc le here;
    levels = subst (λ z. All (Fits z) w.letters) (sym count) way.letter_levels;
    accepted = subst (λ z. Accepts (m c) (values_at z w.letters)) entire (reached (way.on_way c e lc le here));
    shortest = least;
  }
    where
      count : length w.sample ≡ n + stage.more
      count = ap length sample ∙ way.stage.met.0.count

      c : List Atom
      c = sampled (take n w.sample)

      e : List Atom
      e = sampled (drop n w.sample)

      lc : length (sampled (take n w.sample)) ≡ n
      lc = first_length n stage.more w.sample count

      le : length (sampled (drop n w.sample)) ≡ stage.more
      le = other_length n stage.more w.sample count

      entire : sampled (take n w.sample) ++ sampled (drop n w.sample) ≡ sampled w.sample
      entire = whole_sample n stage.more w.sample count

      here : IsTrue (holds (sampled (take n w.sample) ++ sampled (drop n w.sample)) stage.admitted)
      here = subst (λ z. IsTrue (holds z stage.admitted)) (sym (entire ∙ ap sampled sample)) way.stage.met.1

      reached : IsOnWay (m c) 0 w.letters (point (tree stage.state) (c ++ e)) (c ++ e) → Accepts (m c) (values_at (c ++ e) w.letters)
      reached on = go on.onward
        where
          go : AcceptsIn (m c) 0 (point (tree stage.state) (c ++ e)) → Accepts (m c) (values_at (c ++ e) w.letters)
          go ([], long, from) = subst (Accepts (m c)) (append-nil (values_at (c ++ e) w.letters)) (on.behind [] from)
          go (x ∷ word, long, from) = absurd (omega arith)

-- ---- of the term of an automaton
module _ (a : TermD) (s l t i f : CompsD) (is : a ≡ five_of s l t i f) (n : ℕ) (u : List (List Lit)) (automaton : HoldsThroughout n u (IsAutomatonAt a)) where
  pub machine_is : (c : List Atom) → length c ≡ n → IsTrue (holds c u) → IsAutomatonOf (point a c) (automaton_at s l t i f c)
  machine_is c k h =
      subst (λ z. IsAutomatonOf (point z c) (automaton_at s l t i f c)) (sym is) (five_machine s l t i f c (subst (λ z. IsAutomatonAt z c) is (automaton c k h)))

  pub accepts_here : (c : List Atom) (word : List PointValue) → AcceptsAt a c word → Accepts (automaton_at s l t i f c) word
  accepts_here c word (m, own, acc) =
      subst (λ z. Accepts z word) (five_equal s l t i f c m (subst (λ z. IsAutomatonOf (point z c) m) is own)) acc

  pub word_is : (w : Word) → IsWordOf n u (automaton_at s l t i f) w → AreUsedBetween n (length w.sample) w.letters → IsShortestWord n u a w
  word_is w h used =
      let c = first_sampled n w.sample in
      let k : length c ≡ n = first_count n w.sample h.count in
      let own = machine_is c k h.admitted in
      let word = values_at (sampled w.sample) w.letters in
      record {
        count = h.count;
        admitted = h.admitted;
        levels = h.levels;
        letters = (automaton_at s l t i f c, own, accepted_letters (point a c) (automaton_at s l t i f c) word own h.accepted);
        accepted = (automaton_at s l t i f c, own, h.accepted);
        shortest = λ d j x v acc. h.shortest d j x v (accepts_here d v acc);
        used = used;
      }
