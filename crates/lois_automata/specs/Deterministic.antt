-- Whether a term's value is a deterministic automaton, at one choice.
use Rattle.std.specs.Prelude.{List}
use Rattle.lois_base.specs.Atom.{Atom}
use Rattle.lois_base.specs.Data.{TermD}
use Rattle.lois_base.specs.Values.{point}
use Rattle.lois_meaning.specs.Automata.{Automaton, IsAutomatonOf, IsDeterministic}

-- an automaton with exactly one initial state, and at most one step for a state and a letter
abbrev pub IsDeterministicAt : TermD → List Atom → Type 0
IsDeterministicAt t c = (a : Automaton) × IsAutomatonOf (point t c) a × IsDeterministic a
