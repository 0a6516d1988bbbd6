-- Automata as values of terms: which properties are asked for and what the operations make, at one choice.
use Rattle.std.specs.Prelude.{List, [], ◌∷◌, ◌↔◌}
use Rattle.lois_base.specs.Atom.{Atom}
use Rattle.lois_base.specs.Data.{TermD}
use Rattle.lois_base.specs.Values.{PointValue, point}
use Rattle.lois_meaning.specs.Automata.{Automaton, IsAutomatonOf, IsAutomaton, Accepts, IsComplete}
use Rattle.lois_meaning.specs.Expressions.{IsResultOf, IsCompleteDeterministic}
use Rattle.lois_meaning.specs.Operations.{AreLetters}
use Rattle.lois_script.specs.declared.syntax.Operation.TheVariants.{Reach, Product, Complement}

abbrev pub IsAutomatonAt : TermD → List Atom → Type 0
IsAutomatonAt t c = IsAutomaton (point t c)

-- an automaton with at least one step for a state and a letter
abbrev pub IsCompleteAt : TermD → List Atom → Type 0
IsCompleteAt t c = (a : Automaton) × IsAutomatonOf (point t c) a × IsComplete a

-- a complete deterministic automaton
abbrev pub IsCompleteDeterministicAt : TermD → List Atom → Type 0
IsCompleteDeterministicAt t c = IsCompleteDeterministic (point t c)

-- r is the set of the reachable states of t
abbrev pub IsReachAt : TermD → TermD → List Atom → Type 0
IsReachAt t r c = IsResultOf (point r c) Reach (point t c ∷ [])

-- t accepts no word
abbrev pub IsEmptyAt : TermD → List Atom → Type 0
IsEmptyAt t c = (a : Automaton) × IsAutomatonOf (point t c) a × ((word : List PointValue) → Accepts a word → ⊥)

-- t accepts some word
abbrev pub AcceptsSomeAt : TermD → List Atom → Type 0
AcceptsSomeAt t c = (a : Automaton) × IsAutomatonOf (point t c) a × ((word : List PointValue) × Accepts a word)

-- r runs t and s side by side
abbrev pub IsProductAt : TermD → TermD → TermD → List Atom → Type 0
IsProductAt t s r c = IsResultOf (point r c) Product (point t c ∷ point s c ∷ [])

-- r is t, with the other states as final ones
abbrev pub IsComplementAt : TermD → TermD → List Atom → Type 0
IsComplementAt t r c = IsResultOf (point r c) Complement (point t c ∷ [])

-- r accepts exactly the words that both t and s accept
pub record AcceptsBothAt (t s r : TermD) (c : List Atom) : Type 0 where
  pub first : Automaton
  pub second : Automaton
  pub made : Automaton
  pub first_is : IsAutomatonOf (point t c) first
  pub second_is : IsAutomatonOf (point s c) second
  pub made_is : IsAutomatonOf (point r c) made
  pub words : (word : List PointValue) → Accepts made word ↔ (Accepts first word × Accepts second word)

-- r accepts exactly the words over the letters that t doesn't accept
pub record AcceptsOthersAt (t r : TermD) (c : List Atom) : Type 0 where
  pub first : Automaton
  pub made : Automaton
  pub first_is : IsAutomatonOf (point t c) first
  pub made_is : IsAutomatonOf (point r c) made
  pub words : (word : List PointValue) → Accepts made word ↔ (AreLetters first word × (Accepts first word → ⊥))
