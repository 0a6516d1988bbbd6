-- Shortest words that the lines of a name accept, case by case.
use Rattle.std.specs.Prelude.{◌≡◌, ℕ, List, Option, Some, None}
use Rattle.std.specs.List.{All}
use Rattle.lois_base.specs.Data.{TermD}
use Rattle.lois_answers.specs.ResultsData.{CaseD}
use Rattle.lois_automata.specs.Machines.{IsEmptyAt}
use Rattle.lois_automata.specs.Throughout.{HoldsThroughout}
use Rattle.lois_shortest_word.specs.Shortest.{IsShortestWord}
use Rattle.lois_shortest_word.specs.declared.words.Word.{Word}
use Rattle.lois_equal.specs.Comparing.{HasTerm, HasNoLine, IsFirst}
use Rattle.lois_languages.specs.Faults.{HasAutomaton, LacksAutomaton, fault_number}
use Rattle.lois_languages.specs.declared.faults.LineFault.{LineFault}
use Rattle.lois_languages.specs.declared.faults.LineFault.TheVariants.{NoLine, NotAutomaton, NotDeterministic}
use Rattle.lois_languages.specs.declared.witnesses.Witness.{Witness}
use Rattle.lois_languages.specs.declared.witnesses.Witness.TheVariants.{Nothing, Found, Refused}

-- the line accepts no word, at any choice of n atoms that the case admits
abbrev pub AcceptsNone : ℕ → List ℕ → CaseD → Type 0
AcceptsNone n name c = (t : TermD) × HasTerm name c t × HoldsThroughout n c.«when» (IsEmptyAt t)

-- the line accepts the word at some such choice, and no shorter one at any
abbrev pub AcceptsShortest : ℕ → List ℕ → Word → CaseD → Type 0
AcceptsShortest n name w c = (t : TermD) × HasTerm name c t × IsShortestWord n c.«when» t w

-- why a case can't be asked for a word
abbrev pub IsWordReason : ℕ → List ℕ → LineFault → CaseD → Type 0
IsWordReason n a (NoLine name k) c = (name ≡ a) × HasNoLine a c
IsWordReason n a (NotAutomaton name k) c = (name ≡ a) × LacksAutomaton n a c
IsWordReason n a (NotDeterministic name k) c = ⊥

-- a refusal names the first case that can't be asked; otherwise all can, and the word is of the first case that has one
abbrev pub IsWitness : ℕ → List ℕ → List CaseD → Witness → Type 0
IsWitness n a cases Nothing = All (HasAutomaton n a) cases × All (AcceptsNone n a) cases
IsWitness n a cases (Found k w) = All (HasAutomaton n a) cases × IsFirst (AcceptsNone n a) (AcceptsShortest n a w) k cases
IsWitness n a cases (Refused r) = IsFirst (HasAutomaton n a) (IsWordReason n a r) (fault_number r) cases

abbrev pub IfFound : (Word → Type 0) → Witness → Type 0
IfFound P Nothing = Unit {0}
IfFound P (Found k w) = P w
IfFound P (Refused r) = Unit {0}

-- ---- what private contracts say
-- no reason that a case can't be asked; the reason
abbrev pub IsWordReasonOrNone : ℕ → List ℕ → CaseD → Option LineFault → Type 0
IsWordReasonOrNone n a c None = HasAutomaton n a c
IsWordReasonOrNone n a c (Some r) = IsWordReason n a r c

-- so of all cases: of the first that can't be asked
abbrev pub IsFirstWordReason : ℕ → List ℕ → List CaseD → Option LineFault → Type 0
IsFirstWordReason n a cases None = All (HasAutomaton n a) cases
IsFirstWordReason n a cases (Some r) = IsFirst (HasAutomaton n a) (IsWordReason n a r) (fault_number r) cases

-- of cases that can all be asked: the first that has a word
abbrev pub IsFirstWord : ℕ → List ℕ → List CaseD → Witness → Type 0
IsFirstWord n a cases Nothing = All (AcceptsNone n a) cases
IsFirstWord n a cases (Found k w) = IsFirst (AcceptsNone n a) (AcceptsShortest n a w) k cases
IsFirstWord n a cases (Refused r) = ⊥
