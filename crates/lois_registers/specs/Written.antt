-- How the automaton of a register automaton is written: all but the guards of its steps is a function of the register automaton.
use Rattle.std.specs.Prelude.{◌≡◌, List, [], ◌∷◌, None, replicate}
use Rattle.lois_base.specs.Data.{TermD, var, coll, CompD, comp, comps_of}
use Rattle.lois_registers.specs.Placed.{placements, configuration_term, configurations, step_comps, AreMade, five_terms}
use Rattle.lois_registers.specs.declared.automata.Registers.{Registers}

-- the sets of the configurations, of all atoms, of steps of which each has the wanted levels and item and a guard that holds where it
-- is wanted, of the first configuration, and of the final ones
abbrev pub IsWrittenFrom : Registers → TermD → Type 0
IsWrittenFrom r t = (steps : List CompD) × AreMade (step_comps (placements r.registers) r.steps) steps ×
    (t ≡ five_terms
    (coll (comps_of (configurations (placements r.registers) r.states)))
    (coll (comps_of (comp 1 ([] ∷ []) (var 0) ∷ [])))
    (coll (comps_of steps))
    (coll (comps_of (comp 0 ([] ∷ []) (configuration_term r.initial (replicate r.registers None)) ∷ [])))
    (coll (comps_of (configurations (placements r.registers) r.finals))))
