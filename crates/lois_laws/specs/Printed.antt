-- What a script prints under a name, and which words a value accepts.
use Rattle.std.specs.Prelude.{◌≡◌, ℕ, Bool, true, false, List, [], ◌∷◌, filter, Option, Some, None, bytes_eq, ◌⊎◌}
use Rattle.lois_base.specs.Atom.{Atom}
use Rattle.lois_base.specs.Values.{PointValue}
use Rattle.lois_meaning.specs.Automata.{Automaton, IsAutomatonOf, Accepts}
use Rattle.lois_meaning.specs.Runs.{ScriptEnds}
use Rattle.lois_meaning.specs.Store.{NamedValue, NamedValues}
use Rattle.lois_script.specs.Tree.{ScriptD}

abbrev pub last_value : NamedValues → Option PointValue
last_value [] = None
last_value (b ∷ []) = Some b.holds
last_value (b ∷ next ∷ more) = last_value (next ∷ more)

-- what was printed last under the name
abbrev pub printed_as : List ℕ → NamedValues → Option PointValue
printed_as name lines = last_value (filter (λ (b : NamedValue). bytes_eq b.name name) lines)

-- run at the choice, the script ends, and the last line of the name holds v
abbrev pub PrintsAs : ScriptD → List Atom → List ℕ → PointValue → Type 0
PrintsAs s c name v = (lines : NamedValues) × ScriptEnds s c lines × (printed_as name lines ≡ Some v)

-- so of two names at one choice
abbrev pub PrintBoth : ScriptD → List Atom → List ℕ → List ℕ → PointValue → PointValue → Type 0
PrintBoth s c a b v w = PrintsAs s c a v × PrintsAs s c b w

-- the value is an automaton that accepts the word
abbrev pub AcceptsWord : PointValue → List PointValue → Type 0
AcceptsWord v word = (a : Automaton) × IsAutomatonOf v a × Accepts a word

-- the first accepts the word, and the second doesn't
abbrev pub AcceptsWordOnlyFirst : PointValue → PointValue → List PointValue → Type 0
AcceptsWordOnlyFirst v w word = AcceptsWord v word × (AcceptsWord w word → ⊥)

-- exactly one of the two accepts the word
abbrev pub AreToldApart : PointValue → PointValue → List PointValue → Type 0
AreToldApart v w word = AcceptsWordOnlyFirst v w word ⊎ AcceptsWordOnlyFirst w v word

-- the first alone accepts the word where `left` says so, and otherwise the second alone
abbrev pub AcceptsWordOnlyOne : Bool → PointValue → PointValue → List PointValue → Type 0
AcceptsWordOnlyOne true v w word = AcceptsWordOnlyFirst v w word
AcceptsWordOnlyOne false v w word = AcceptsWordOnlyFirst w v word
