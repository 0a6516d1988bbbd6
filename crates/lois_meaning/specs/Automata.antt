-- Automata: paths, acceptance, reachable states, and what the operations make of them.
use Rattle.std.specs.Prelude.{List, [], ◌∷◌, ◌↔◌}
use Rattle.lois_base.specs.Values.{PointValue, IsSame, IsIn}
use Rattle.lois_meaning.specs.Kinds.{IsSet, IsSetOf, HasParts}

-- The five sets of an automaton.
pub record Automaton : Type 0 where
  pub states : PointValue
  pub letters : PointValue
  pub steps : PointValue
  pub initial : PointValue
  pub final : PointValue

-- x is a tuple of two parts that are the same as these; of three
abbrev pub IsPair : PointValue → PointValue → PointValue → Type 0
IsPair x a b = (a' b' : PointValue) × HasParts x (a' ∷ b' ∷ []) × IsSame a a' × IsSame b b'

abbrev pub IsTriple : PointValue → PointValue → PointValue → PointValue → Type 0
IsTriple x a b c =
    (a' b' c' : PointValue) × HasParts x (a' ∷ b' ∷ c' ∷ []) × IsSame a a' × IsSame b b' × IsSame c c'

-- x is a triple of a state, a letter and a state
abbrev pub JoinsStates : PointValue → Automaton → Type 0
JoinsStates x a =
    (p l q : PointValue) × IsTriple x p l q × IsIn p a.states × IsIn l a.letters × IsIn q a.states

-- v is an automaton, and these are its sets
pub record IsAutomatonOf (v : PointValue) (a : Automaton) : Type 0 where
  pub five : HasParts v (a.states ∷ a.letters ∷ a.steps ∷ a.initial ∷ a.final ∷ [])
  pub states_set : IsSet a.states
  pub letters_set : IsSet a.letters
  pub steps_set : IsSet a.steps
  pub initial_set : IsSet a.initial
  pub final_set : IsSet a.final
  pub steps_join : (x : PointValue) → IsIn x a.steps → JoinsStates x a
  pub initial_states : (x : PointValue) → IsIn x a.initial → IsIn x a.states
  pub final_states : (x : PointValue) → IsIn x a.final → IsIn x a.states

abbrev pub IsAutomaton : PointValue → Type 0
IsAutomaton v = (a : Automaton) × IsAutomatonOf v a

-- a step from p to q reads the letter l
abbrev pub HasStep : Automaton → PointValue → PointValue → PointValue → Type 0
HasStep a p l q = (x : PointValue) × IsIn x a.steps × IsTriple x p l q

-- a path from p to q reads the word
abbrev pub Reads : Automaton → List PointValue → PointValue → PointValue → Type 0
Reads a [] p q = IsSame p q
Reads a (l ∷ word) p q = (r : PointValue) × HasStep a p l r × Reads a word r q

abbrev pub AcceptsFrom : Automaton → PointValue → List PointValue → Type 0
AcceptsFrom a p word = (q : PointValue) × IsIn q a.final × Reads a word p q

abbrev pub Accepts : Automaton → List PointValue → Type 0
Accepts a word = (p : PointValue) × IsIn p a.initial × AcceptsFrom a p word

abbrev pub IsReachable : Automaton → PointValue → Type 0
IsReachable a q = (p : PointValue) × (word : List PointValue) × IsIn p a.initial × Reads a word p q

-- exactly one initial state, and at most one step for a state and a letter
abbrev pub IsDeterministic : Automaton → Type 0
IsDeterministic a =
    ((p : PointValue) × IsIn p a.initial × ((q : PointValue) → IsIn q a.initial → IsSame p q)) ×
    ((p l q r : PointValue) → HasStep a p l q → HasStep a p l r → IsSame q r)

abbrev pub IsComplete : Automaton → Type 0
IsComplete a = (p l : PointValue) → IsIn p a.states → IsIn l a.letters → (q : PointValue) × HasStep a p l q

-- the words accepted from p are those accepted from q
abbrev pub HaveSameWords : Automaton → PointValue → PointValue → Type 0
HaveSameWords a p q = (word : List PointValue) → AcceptsFrom a p word ↔ AcceptsFrom a q word

-- x is the class of q
abbrev pub IsClassOf : Automaton → PointValue → PointValue → Type 0
IsClassOf a x q = IsSetOf x (λ p. IsReachable a p × HaveSameWords a p q)

-- m is the minimal automaton of a
pub record IsMinimalOf (m a : Automaton) : Type 0 where
  pub states : IsSetOf m.states (λ x. (q : PointValue) × IsReachable a q × IsClassOf a x q)
  pub letters : IsSame m.letters a.letters
  pub steps : IsSetOf m.steps (λ x. (q l r c d : PointValue) × IsReachable a q × HasStep a q l r ×
      IsClassOf a c q × IsClassOf a d r × IsTriple x c l d)
  pub initial : IsSetOf m.initial (λ x. (q : PointValue) × IsIn q a.initial × IsClassOf a x q)
  pub final : IsSetOf m.final (λ x. (q : PointValue) × IsReachable a q × IsIn q a.final × IsClassOf a x q)

-- m runs a and b side by side
pub record IsProductOf (m a b : Automaton) : Type 0 where
  pub states : IsSetOf m.states (λ x. (p q : PointValue) × IsIn p a.states × IsIn q b.states × IsPair x p q)
  pub letters : IsSetOf m.letters (λ x. IsIn x a.letters × IsIn x b.letters)
  pub steps : IsSetOf m.steps (λ x. (p l p' q q' s s' : PointValue) × HasStep a p l p' × HasStep b q l q' ×
      IsPair s p q × IsPair s' p' q' × IsTriple x s l s')
  pub initial : IsSetOf m.initial (λ x. (p q : PointValue) × IsIn p a.initial × IsIn q b.initial × IsPair x p q)
  pub final : IsSetOf m.final (λ x. (p q : PointValue) × IsIn p a.final × IsIn q b.final × IsPair x p q)

-- m is a, with the other states as final ones
pub record IsComplementOf (m a : Automaton) : Type 0 where
  pub states : IsSame m.states a.states
  pub letters : IsSame m.letters a.letters
  pub steps : IsSame m.steps a.steps
  pub initial : IsSame m.initial a.initial
  pub final : IsSetOf m.final (λ x. IsIn x a.states × (IsIn x a.final → ⊥))
