-- Minimal automata as values of terms, at one choice.
use Rattle.std.specs.Prelude.{List, [], ◌∷◌, ◌↔◌}
use Rattle.lois_base.specs.Atom.{Atom}
use Rattle.lois_base.specs.Data.{TermD}
use Rattle.lois_base.specs.Values.{PointValue, point, IsIn, IsSame}
use Rattle.lois_meaning.specs.Automata.{Automaton, IsAutomatonOf, Accepts, IsReachable, HaveSameWords}
use Rattle.lois_meaning.specs.Expressions.{IsResultOf}
use Rattle.lois_script.specs.declared.syntax.Operation.TheVariants.{Minimise}

-- r is the minimal automaton of t
abbrev pub IsMinimalAt : TermD → TermD → List Atom → Type 0
IsMinimalAt t r c = IsResultOf (point r c) Minimise (point t c ∷ [])

-- r accepts exactly the words that t accepts, all its states are reachable, and from no two states that differ the same words are accepted
pub record IsLeastAt (t r : TermD) (c : List Atom) : Type 0 where
  pub first : Automaton
  pub made : Automaton
  pub first_is : IsAutomatonOf (point t c) first
  pub made_is : IsAutomatonOf (point r c) made
  pub words : (word : List PointValue) → Accepts made word ↔ Accepts first word
  pub reached : (x : PointValue) → IsIn x made.states → IsReachable made x
  pub apart : (x y : PointValue) → IsIn x made.states → IsIn y made.states → HaveSameWords made x y → IsSame x y
