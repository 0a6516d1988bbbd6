-- What is found of one case, and of the cases so far.
use Rattle.std.specs.Prelude.{◌≡◌, ℕ, Bool, true, false, List, Option, Some, None}
use Rattle.std.specs.List.{All}
use Rattle.lois_base.specs.Data.{TermD}
use Rattle.lois_base.specs.declared.guards.Lit.{Lit}
use Rattle.lois_answers.specs.ResultsData.{CaseD}
use Rattle.lois_automata.specs.Deterministic.{IsDeterministicAt}
use Rattle.lois_automata.specs.Throughout.{HoldsThroughout}
use Rattle.lois_equal.specs.declared.differing.Equality.{Equality}
use Rattle.lois_equal.specs.declared.differing.Equality.TheVariants.{Same, Differs}
use Rattle.lois_equal.specs.declared.comparing.Comparison.{Comparison}
use Rattle.lois_equal.specs.declared.comparing.Comparison.TheVariants.{Alike, Differ, Refused}
use Rattle.lois_equal.specs.declared.comparing.ComparisonFault.{ComparisonFault}
use Rattle.lois_equal.specs.Comparing.{IsSomewhereNotDeterministic, AreComparable, LinesHaveSameLanguage, side_name, LinesDiffer, IsReason, number_of, IsFirst}

-- the answer says whether the value is a deterministic automaton at each choice that u admits
abbrev pub DecidesDeterminism : ℕ → List (List Lit) → TermD → Bool → Type 0
DecidesDeterminism n u t true = HoldsThroughout n u (IsDeterministicAt t)
DecidesDeterminism n u t false = IsSomewhereNotDeterministic n u t

-- no reason that a case can't be compared; the reason
abbrev pub IsReasonOrNone : ℕ → List ℕ → List ℕ → CaseD → Option ComparisonFault → Type 0
IsReasonOrNone n a b c None = AreComparable n a b c
IsReasonOrNone n a b c (Some r) = IsReason n a b r c

abbrev pub HasFaultNumber : ℕ → Option ComparisonFault → Type 0
HasFaultNumber k None = Unit {0}
HasFaultNumber k (Some r) = number_of r ≡ k

-- so of all cases: of the first that can't be compared
abbrev pub IsFirstReason : ℕ → List ℕ → List ℕ → List CaseD → Option ComparisonFault → Type 0
IsFirstReason n a b cases None = All (AreComparable n a b) cases
IsFirstReason n a b cases (Some r) = IsFirst (AreComparable n a b) (IsReason n a b r) (number_of r) cases

-- of cases that can all be compared: the first in which the lines differ
abbrev pub IsFirstDifference : ℕ → List ℕ → List ℕ → List CaseD → Comparison → Type 0
IsFirstDifference n a b cases Alike = All (LinesHaveSameLanguage n a b) cases
IsFirstDifference n a b cases (Differ k d name) = IsFirst (LinesHaveSameLanguage n a b) (LinesDiffer n a b d name) k cases
IsFirstDifference n a b cases (Refused r) = ⊥

-- nothing tells the two lines apart, or the difference does
abbrev pub LinesAgreeOrDiffer : ℕ → List ℕ → List ℕ → CaseD → Equality → Type 0
LinesAgreeOrDiffer n a b c Same = LinesHaveSameLanguage n a b c
LinesAgreeOrDiffer n a b c (Differs d) = LinesDiffer n a b d (side_name d.left a b) c
