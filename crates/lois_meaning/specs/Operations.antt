-- Which words the automata accept that the operations make.
use Rattle.std.specs.Prelude.{List, [], ◌∷◌, ◌↔◌}
use Rattle.lois_base.specs.Values.{PointValue, IsSame, IsIn}
use Rattle.lois_meaning.specs.Automata.{Automaton, IsAutomatonOf, Accepts, IsReachable, IsDeterministic, IsComplete, HaveSameWords, IsClassOf, IsMinimalOf, IsProductOf, IsComplementOf}
use Rattle.lois_meaning.specs.Kinds.{HasParts, AreSame}

-- Any values are the parts of some tuple, up to `IsSame`.
abbrev pub TuplesExist : Type 0
TuplesExist = (vs : List PointValue) → (x : PointValue) × (ws : List PointValue) × HasParts x ws × AreSame vs ws

-- Some word is accepted exactly where some final state is reachable.
abbrev pub AcceptsByReach : Type 0
AcceptsByReach = (a : Automaton) →
    ((word : List PointValue) × Accepts a word) ↔ ((q : PointValue) × IsReachable a q × IsIn q a.final)

-- The product accepts exactly the words that both accept.
abbrev pub ProductsAcceptBoth : Type 0
ProductsAcceptBoth = (m a b : Automaton) (word : List PointValue) → IsProductOf m a b →
    Accepts m word ↔ (Accepts a word × Accepts b word)

-- each value of the word is a letter
abbrev pub AreLetters : Automaton → List PointValue → Type 0
AreLetters a [] = Unit {0}
AreLetters a (l ∷ word) = IsIn l a.letters × AreLetters a word

-- The complement of a complete deterministic automaton accepts exactly the words over the letters that the automaton doesn't accept.
abbrev pub ComplementsAcceptOthers : Type 0
ComplementsAcceptOthers = (v : PointValue) (m a : Automaton) (word : List PointValue) →
    IsAutomatonOf v a → IsDeterministic a → IsComplete a → IsComplementOf m a →
    Accepts m word ↔ (AreLetters a word × (Accepts a word → ⊥))

-- each reachable state has a class
abbrev pub ClassesExist : Automaton → Type 0
ClassesExist a = (q : PointValue) → IsReachable a q → (x : PointValue) × IsClassOf a x q

-- The minimal automaton accepts the words of the original, all its states are reachable, and from no two states that differ
-- the same words are accepted.
pub record MinimalIsMinimal : Type 0 where
  pub words : (m a : Automaton) (word : List PointValue) → IsMinimalOf m a → ClassesExist a → Accepts m word ↔ Accepts a word
  pub reached : (m a : Automaton) (x : PointValue) → IsMinimalOf m a → ClassesExist a → IsIn x m.states → IsReachable m x
  pub apart : (m a : Automaton) (x y : PointValue) → IsMinimalOf m a → ClassesExist a →
      IsIn x m.states → IsIn y m.states → HaveSameWords m x y → IsSame x y
