-- Lists of values that tell two automata apart, at a choice.
use Rattle.std.specs.Prelude.{List, ◌⊎◌}
use Rattle.lois_base.specs.Atom.{Atom}
use Rattle.lois_base.specs.Data.{TermD}
use Rattle.lois_base.specs.Values.{PointValue, point, IsIn}
use Rattle.lois_meaning.specs.Automata.{Automaton, IsAutomatonOf}
use Rattle.lois_shortest_word.specs.Words.{AcceptsAt}

-- t accepts the word, and s doesn't
abbrev pub AcceptsOnlyFirst : TermD → TermD → List Atom → List PointValue → Type 0
AcceptsOnlyFirst t s c word = AcceptsAt t c word × (AcceptsAt s c word → ⊥)

-- exactly one of the two accepts the word
abbrev pub TellsApart : TermD → TermD → List Atom → List PointValue → Type 0
TellsApart t s c word = AcceptsOnlyFirst t s c word ⊎ AcceptsOnlyFirst s t c word

-- t is an automaton, and the value is one of its letters
abbrev pub HasLetterAt : TermD → List Atom → PointValue → Type 0
HasLetterAt t c l = (a : Automaton) × IsAutomatonOf (point t c) a × IsIn l a.letters
