-- Whether each word that one name's lines accept is accepted by another's, case by case.
use Rattle.std.specs.Prelude.{◌≡◌, ℕ, true, List, ◌⊎◌, Option, Some, None}
use Rattle.std.specs.List.{All}
use Rattle.lois_base.specs.Data.{TermD}
use Rattle.lois_base.specs.Truth.{sampled}
use Rattle.lois_base.specs.declared.guards.Lit.{Lit}
use Rattle.lois_answers.specs.ResultsData.{CaseD}
use Rattle.lois_shortest_word.specs.Words.{values_at, first_sampled}
use Rattle.lois_shortest_word.specs.Shortest.{HasLettersAt}
use Rattle.lois_shortest_word.specs.declared.words.Word.{Word}
use Rattle.lois_equal.specs.Comparing.{HasTerm, HasLine, HasNoLine, IsComparable, IsNotDeterministic, IsFirst}
use Rattle.lois_equal.specs.Differences.{IsLanguageIncluded, IsShortestDifference}
use Rattle.lois_equal.specs.declared.differing.Difference.{Difference}
use Rattle.lois_languages.specs.Faults.{HasAutomaton, LacksAutomaton, fault_number}
use Rattle.lois_languages.specs.declared.faults.LineFault.{LineFault}
use Rattle.lois_languages.specs.declared.faults.LineFault.TheVariants.{NoLine, NotAutomaton, NotDeterministic}
use Rattle.lois_languages.specs.declared.inclusions.Inclusion.{Inclusion}
use Rattle.lois_languages.specs.declared.inclusions.Inclusion.TheVariants.{Within, Beyond, Refused}

-- the first name's line holds an automaton throughout, the second's a deterministic one
abbrev pub AreSuited : ℕ → List ℕ → List ℕ → CaseD → Type 0
AreSuited n a b c = HasAutomaton n a c × IsComparable n b c

-- at no choice of n atoms that the case admits a word is accepted by the first line and not by the second
abbrev pub IsWithin : ℕ → List ℕ → List ℕ → CaseD → Type 0
IsWithin n a b c = (t s : TermD) × HasTerm a c t × HasTerm b c s × IsLanguageIncluded n c.«when» t s

abbrev pub word_in : Difference → Word
word_in d = record { sample = d.sample; letters = d.word }

-- a word over the letters of t that t accepts and s doesn't, at the choice of the first n numbers, and no shorter one at any choice
-- that u admits
pub record IsExcess (n : ℕ) (u : List (List Lit)) (t s : TermD) (d : Difference) : Type 0 where
  pub side : d.left ≡ true
  pub word : IsShortestDifference n u t s (word_in d)
  pub letters : HasLettersAt t (first_sampled n d.sample) (values_at (sampled d.sample) d.word)

abbrev pub IsBeyond : ℕ → List ℕ → List ℕ → Difference → List ℕ → CaseD → Type 0
IsBeyond n a b d name c = (t s : TermD) × HasTerm a c t × HasTerm b c s × IsExcess n c.«when» t s d × (name ≡ a)

-- why a case can't be compared: the first name's line is looked for first, then the second's; then the first one is looked at, then
-- the second
abbrev pub IsWithinReason : ℕ → List ℕ → List ℕ → LineFault → CaseD → Type 0
IsWithinReason n a b (NoLine name k) c = ((name ≡ a) × HasNoLine a c) ⊎ ((name ≡ b) × HasLine a c × HasNoLine b c)
IsWithinReason n a b (NotAutomaton name k) c = (name ≡ a) × LacksAutomaton n a c × HasLine b c
IsWithinReason n a b (NotDeterministic name k) c = (name ≡ b) × HasAutomaton n a c × IsNotDeterministic n b c

-- a refusal names the first case that can't be compared; otherwise all can, and a word beyond is in the first case that has one
abbrev pub IsInclusion : ℕ → List ℕ → List ℕ → List CaseD → Inclusion → Type 0
IsInclusion n a b cases Within = All (AreSuited n a b) cases × All (IsWithin n a b) cases
IsInclusion n a b cases (Beyond k d name) = All (AreSuited n a b) cases × IsFirst (IsWithin n a b) (IsBeyond n a b d name) k cases
IsInclusion n a b cases (Refused r) = IsFirst (AreSuited n a b) (IsWithinReason n a b r) (fault_number r) cases

abbrev pub IfBeyond : (Difference → Type 0) → Inclusion → Type 0
IfBeyond P Within = Unit {0}
IfBeyond P (Beyond k d name) = P d
IfBeyond P (Refused r) = Unit {0}

-- ---- what private contracts say
-- the word as a difference
abbrev pub excess_of : Word → Difference
excess_of w = record { sample = w.sample; word = w.letters; left = true }

-- so of a word
abbrev pub IsExcessWord : ℕ → List ℕ → List ℕ → Word → CaseD → Type 0
IsExcessWord n a b w c = (t s : TermD) × HasTerm a c t × HasTerm b c s × IsExcess n c.«when» t s (excess_of w)

-- no reason that a case can't be compared; the reason
abbrev pub IsWithinReasonOrNone : ℕ → List ℕ → List ℕ → CaseD → Option LineFault → Type 0
IsWithinReasonOrNone n a b c None = AreSuited n a b c
IsWithinReasonOrNone n a b c (Some r) = IsWithinReason n a b r c

-- so of all cases: of the first that can't be compared
abbrev pub IsFirstWithinReason : ℕ → List ℕ → List ℕ → List CaseD → Option LineFault → Type 0
IsFirstWithinReason n a b cases None = All (AreSuited n a b) cases
IsFirstWithinReason n a b cases (Some r) = IsFirst (AreSuited n a b) (IsWithinReason n a b r) (fault_number r) cases

-- of cases that can all be compared: the first that has a word beyond
abbrev pub IsFirstBeyond : ℕ → List ℕ → List ℕ → List CaseD → Inclusion → Type 0
IsFirstBeyond n a b cases Within = All (IsWithin n a b) cases
IsFirstBeyond n a b cases (Beyond k d name) = IsFirst (IsWithin n a b) (IsBeyond n a b d name) k cases
IsFirstBeyond n a b cases (Refused r) = ⊥
