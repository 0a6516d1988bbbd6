-- Lines that hold automata, and those that don't.
use Rattle.std.specs.Prelude.{◌≡◌, ℕ, Bool, true, false, List, length, IsTrue, Option, Some, None}
use Rattle.lois_base.specs.Atom.{Atom}
use Rattle.lois_base.specs.Data.{TermD}
use Rattle.lois_base.specs.Truth.{holds}
use Rattle.lois_base.specs.declared.guards.Lit.{Lit}
use Rattle.lois_answers.specs.ResultsData.{CaseD}
use Rattle.lois_automata.specs.Machines.{IsAutomatonAt}
use Rattle.lois_automata.specs.Throughout.{HoldsThroughout}
use Rattle.lois_equal.specs.Comparing.{HasTerm}
use Rattle.lois_languages.specs.declared.faults.LineFault.{LineFault}
use Rattle.lois_languages.specs.declared.faults.LineFault.TheVariants.{NoLine, NotAutomaton, NotDeterministic}

-- the line holds an automaton at each choice of n atoms that the case admits
abbrev pub HasAutomaton : ℕ → List ℕ → CaseD → Type 0
HasAutomaton n name c = (t : TermD) × HasTerm name c t × HoldsThroughout n c.«when» (IsAutomatonAt t)

-- at some choice of n atoms that u admits the value is no automaton
abbrev pub IsSomewhereNotAutomaton : ℕ → List (List Lit) → TermD → Type 0
IsSomewhereNotAutomaton n u t = (d : List Atom) × (length d ≡ n) × IsTrue (holds d u) × (IsAutomatonAt t d → ⊥)

-- so of the line's
abbrev pub LacksAutomaton : ℕ → List ℕ → CaseD → Type 0
LacksAutomaton n name c = (t : TermD) × HasTerm name c t × IsSomewhereNotAutomaton n c.«when» t

-- the number of the case
abbrev pub fault_number : LineFault → ℕ
fault_number (NoLine name k) = k
fault_number (NotAutomaton name k) = k
fault_number (NotDeterministic name k) = k

-- ---- what private contracts say
-- the answer says whether the value is an automaton at each choice that u admits
abbrev pub DecidesAutomaton : ℕ → List (List Lit) → TermD → Bool → Type 0
DecidesAutomaton n u t true = HoldsThroughout n u (IsAutomatonAt t)
DecidesAutomaton n u t false = IsSomewhereNotAutomaton n u t

abbrev pub HasFaultNumber : ℕ → Option LineFault → Type 0
HasFaultNumber k None = Unit {0}
HasFaultNumber k (Some r) = fault_number r ≡ k
