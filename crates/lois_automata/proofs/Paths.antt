-- Steps and paths: what lies on them.
use Rattle.std.proofs.Common.{List, [], ◌∷◌}
use Rattle.lois_base.specs.Values.{PointValue, IsSame, IsIn}
use Rattle.lois_base.proofs.Members.{same_refl, same_sym, in_same}
use Rattle.lois_meaning.specs.Automata.{Automaton, JoinsStates, IsAutomatonOf, HasStep, Reads, IsReachable}
use Rattle.lois_meaning.proofs.Automata.{SameMachine}
use Rattle.lois_meaning.proofs.Operations.{triple_both}

pub machine_refl : (a : Automaton) → SameMachine a a
machine_refl a = record { states = same_refl a.states; letters = same_refl a.letters; steps = same_refl a.steps; initial = same_refl a.initial; final = same_refl a.final }

module _ (v : PointValue) (a : Automaton) (is : IsAutomatonOf v a) where
  pub source_in : (p l q : PointValue) → HasStep a p l q → IsIn p a.states
  source_in p l q (x, i, t) =
      let j : JoinsStates x a = is.steps_join x i in
      let both : IsSame p j.0 × IsSame l j.1 × IsSame q j.2 = triple_both x p l q j.0 j.1 j.2 t j.3 in
      in_same j.0 p a.states (same_sym p j.0 both.0) j.4

  pub letter_in : (p l q : PointValue) → HasStep a p l q → IsIn l a.letters
  letter_in p l q (x, i, t) =
      let j : JoinsStates x a = is.steps_join x i in
      let both : IsSame p j.0 × IsSame l j.1 × IsSame q j.2 = triple_both x p l q j.0 j.1 j.2 t j.3 in
      in_same j.1 l a.letters (same_sym l j.1 both.1) j.5

  pub target_in : (p l q : PointValue) → HasStep a p l q → IsIn q a.states
  target_in p l q (x, i, t) =
      let j : JoinsStates x a = is.steps_join x i in
      let both : IsSame p j.0 × IsSame l j.1 × IsSame q j.2 = triple_both x p l q j.0 j.1 j.2 t j.3 in
      in_same j.2 q a.states (same_sym q j.2 both.2) j.6

  path_state : (word : List PointValue) (p q : PointValue) → IsIn p a.states → Reads a word p q → IsIn q a.states
  path_state [] p q i s = in_same p q a.states s i
  path_state (l ∷ word) p q i (r, step, rest) = path_state word r q (target_in p l r step) rest

  pub reached_state : (q : PointValue) → IsReachable a q → IsIn q a.states
  reached_state q (p, word, i, reads) = path_state word p q (is.initial_states p i) reads
