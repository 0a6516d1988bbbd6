-- The automaton of five sets that a function is given.
use Rattle.std.specs.Prelude.{List}
use Rattle.lois_base.specs.Atom.{Atom}
use Rattle.lois_base.specs.Data.{comps_of}
use Rattle.lois_meaning.specs.Automata.{Automaton}
use Rattle.lois_automata.specs.Projections.{automaton_at}
use Rattle.lois_automata.specs.declared.parts.FiveSets.{FiveSets}

abbrev pub automaton_of : FiveSets → List Atom → Automaton
automaton_of sets =
    automaton_at (comps_of sets.states.now) (comps_of sets.letters.now) (comps_of sets.steps.now) (comps_of sets.initial.now) (comps_of sets.accepting.now)
