-- Lines that hold automata, and those that don't.
use Rattle.std.proofs.Common.{ℕ, List, subst, ◌∙◌}
use Rattle.std.proofs.lemmas.List.{length-map}
use Rattle.lois_base.specs.Atom.{whole}
use Rattle.lois_base.specs.Data.{TermD}
use Rattle.lois_base.specs.Truth.{sampled}
use Rattle.lois_base.specs.declared.guards.Lit.{Lit}
use Rattle.lois_answers.specs.ResultsData.{CaseD}
use Rattle.lois_automata.specs.Machines.{IsAutomatonAt}
use Rattle.lois_automata.specs.Throughout.{HoldsThroughout}
use Rattle.lois_automata.specs.Verdicts.{IsBreak}
use Rattle.lois_equal.specs.Comparing.{HasTerm}
use Rattle.lois_equal.proofs.CaseLines.{one_term}
use Rattle.lois_languages.specs.Faults.{HasAutomaton, IsSomewhereNotAutomaton}

pub broken_automaton : (n : ℕ) (u : List (List Lit)) (t : TermD) (s : List ℕ) → IsBreak n u (IsAutomatonAt t) s → IsSomewhereNotAutomaton n u t
broken_automaton n u t s h = (sampled s, length-map s whole ∙ h.count, h.admitted, h.broken)

-- the line that is asked
pub automaton_term : (n : ℕ) (name : List ℕ) (c : CaseD) (t : TermD) → HasAutomaton n name c → HasTerm name c t → HoldsThroughout n c.«when» (IsAutomatonAt t)
automaton_term n name c t (s, has, only) h = subst (λ z. HoldsThroughout n c.«when» (IsAutomatonAt z)) (one_term name c s t has h) only
