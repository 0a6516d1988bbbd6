-- Results, and what is found where their lines of two names are compared, case by case.
use Rattle.std.specs.Prelude.{◌≡◌, ℕ, ◌+◌, Bool, true, false, List, ◌∷◌, ◌++◌, length, IsTrue, ◌⊎◌, Some, None, option_map}
use Rattle.std.specs.List.{All}
use Rattle.lois_base.specs.Atom.{Atom}
use Rattle.lois_base.specs.Data.{TermD}
use Rattle.lois_base.specs.Truth.{holds}
use Rattle.lois_base.specs.declared.guards.Lit.{Lit}
use Rattle.lois_answers.specs.LastNamed.{last_named}
use Rattle.lois_answers.specs.ResultsData.{CaseD}
use Rattle.lois_automata.specs.Deterministic.{IsDeterministicAt}
use Rattle.lois_automata.specs.Throughout.{HoldsThroughout}
use Rattle.lois_equal.specs.Differing.{HaveSameLanguage, IsDistinguishingWord}
use Rattle.lois_equal.specs.declared.differing.Difference.{Difference}
use Rattle.lois_equal.specs.declared.comparing.Comparison.{Comparison}
use Rattle.lois_equal.specs.declared.comparing.Comparison.TheVariants.{Alike, Differ, Refused}
use Rattle.lois_equal.specs.declared.comparing.ComparisonFault.{ComparisonFault}
use Rattle.lois_equal.specs.declared.comparing.ComparisonFault.TheVariants.{NoLine, NotDeterministic}

-- the last line of that name holds the term
abbrev pub HasTerm : List ℕ → CaseD → TermD → Type 0
HasTerm name c t = option_map (λ l. l.term) (last_named name c.lines) ≡ Some t

abbrev pub HasLine : List ℕ → CaseD → Type 0
HasLine name c = (t : TermD) × HasTerm name c t

abbrev pub HasNoLine : List ℕ → CaseD → Type 0
HasNoLine name c = last_named name c.lines ≡ None

-- the line holds a deterministic automaton at each choice of n atoms that the case admits
abbrev pub IsComparable : ℕ → List ℕ → CaseD → Type 0
IsComparable n name c = (t : TermD) × HasTerm name c t × HoldsThroughout n c.«when» (IsDeterministicAt t)

-- at some choice of n atoms that u admits the value is no deterministic automaton
abbrev pub IsSomewhereNotDeterministic : ℕ → List (List Lit) → TermD → Type 0
IsSomewhereNotDeterministic n u t = (d : List Atom) × (length d ≡ n) × IsTrue (holds d u) × (IsDeterministicAt t d → ⊥)

-- so of the line's
abbrev pub IsNotDeterministic : ℕ → List ℕ → CaseD → Type 0
IsNotDeterministic n name c = (t : TermD) × HasTerm name c t × IsSomewhereNotDeterministic n c.«when» t

abbrev pub AreComparable : ℕ → List ℕ → List ℕ → CaseD → Type 0
AreComparable n a b c = IsComparable n a c × IsComparable n b c

-- no list of values tells the two lines apart, at any choice of n atoms that the case admits
abbrev pub LinesHaveSameLanguage : ℕ → List ℕ → List ℕ → CaseD → Type 0
LinesHaveSameLanguage n a b c = (t s : TermD) × HasTerm a c t × HasTerm b c s × HaveSameLanguage n c.«when» t s

-- d tells the two lines apart, and the line of this name accepts
abbrev pub side_name : Bool → List ℕ → List ℕ → List ℕ
side_name true a b = a
side_name false a b = b

pub record LinesDiffer (n : ℕ) (a b : List ℕ) (d : Difference) (name : List ℕ) (c : CaseD) : Type 0 where
  pub first : TermD
  pub second : TermD
  pub first_line : HasTerm a c first
  pub second_line : HasTerm b c second
  pub difference : IsDistinguishingWord n c.«when» first second d
  pub accepts : name ≡ side_name d.left a b

-- why a case can't be compared: the first name's line is looked for first, then the second's; then the first one is looked at, then
-- the second
abbrev pub IsReason : ℕ → List ℕ → List ℕ → ComparisonFault → CaseD → Type 0
IsReason n a b (NoLine name k) c = ((name ≡ a) × HasNoLine a c) ⊎ ((name ≡ b) × HasLine a c × HasNoLine b c)
IsReason n a b (NotDeterministic name k) c = ((name ≡ a) × IsNotDeterministic n a c × HasLine b c) ⊎ ((name ≡ b) × IsComparable n a c × IsNotDeterministic n b c)

abbrev pub number_of : ComparisonFault → ℕ
number_of (NoLine name k) = k
number_of (NotDeterministic name k) = k

-- counted from 1, the case at k is one that Q holds of, and P holds of all before it
pub record IsFirst (P Q : CaseD → Type 0) (k : ℕ) (cases : List CaseD) : Type 0 where
  pub before : List CaseD
  pub here : CaseD
  pub after : List CaseD
  pub whole : cases ≡ before ++ here ∷ after
  pub number : k ≡ length before + 1
  pub earlier : All P before
  pub own : Q here

-- a refusal names the first case that can't be compared; otherwise all can, and a difference is in the first case that has one
abbrev pub IsComparison : ℕ → List ℕ → List ℕ → List CaseD → Comparison → Type 0
IsComparison n a b cases Alike = All (AreComparable n a b) cases × All (LinesHaveSameLanguage n a b) cases
IsComparison n a b cases (Differ k d name) = All (AreComparable n a b) cases × IsFirst (LinesHaveSameLanguage n a b) (LinesDiffer n a b d name) k cases
IsComparison n a b cases (Refused r) = IsFirst (AreComparable n a b) (IsReason n a b r) (number_of r) cases

-- of what is found, if it is a difference
abbrev pub IfDiffer : (Difference → Type 0) → Comparison → Type 0
IfDiffer P Alike = Unit {0}
IfDiffer P (Differ k d name) = P d
IfDiffer P (Refused r) = Unit {0}
