-- What the texts of results and of traces stand for, or the first side rule that they break.
use Rattle.std.specs.Prelude.{ℕ, zero, suc, ◌^◌, Bool, true, false, ◌&&◌, not, nat_le, List, [], ◌∷◌, ◌++◌, length, Result, Ok, Err, codes, is_ok, if◌then◌else◌}
use Rattle.lois_answers.specs.ResultsData.{LineD, CaseD}
use Rattle.lois_answers.specs.TraceText.{kind_text}
use Rattle.lois_answers.specs.declared.faults.FaultKind.{FaultKind}
use Rattle.lois_answers.specs.declared.faults.FaultKind.TheVariants.{Assertion, NotASet, NotAtoms, NotATuple, NoSuchPart, NotAutomaton, NotDeterministic, NotComplete, TurnLimit, DepthLimit}
use Rattle.lois_answers.specs.declared.faults.Answer.{Answer}
use Rattle.lois_answers.specs.declared.faults.Answer.TheVariants as answers
use Rattle.lois_answers.specs.declared.faults.Trace.{Trace}
use Rattle.lois_answers.specs.declared.results.Results.{Results}
use Rattle.lois_reader.specs.declared.scope.Scope.{Scope}
use Rattle.lois_reader.specs.Reading.{◌>>=◌, End, begins}
use Rattle.lois_reader.specs.Ends.{fixed_end, word_at, number_at}
use Rattle.lois_reader.specs.Pieces.{is_among, is_unreserved}
use Rattle.lois_reader.specs.Values.{given, value_within, many_at, constraint_at}
use Rattle.lois_reader.specs.TermValues.{term_at}

-- the parameters behind those before
abbrev pub names_at : ℕ → List (List ℕ) → List ℕ → Result (List (List ℕ) × List ℕ) ℕ
names_at zero before s = Err (length s)
names_at (suc k) before s =
    if begins 32 s then fixed_end (codes " ") s >>= (λ t. word_at t >>= (λ x.
    if is_unreserved x.0 && not (is_among before x.0) then names_at k (before ++ x.0 ∷ []) x.1 else Err (length t)))
    else Ok (before, s)

unfoldable pub structure_at : List ℕ → Result (Bool × List ℕ) ℕ
structure_at s = if begins 111 s then fixed_end (codes "order\n") s >>= (λ r. Ok (true, r)) else fixed_end (codes "equality\n") s >>= (λ r. Ok (false, r))

unfoldable pub parameters_at : List ℕ → Result (List (List ℕ) × List ℕ) ℕ
parameters_at s = fixed_end (codes "parameters") s >>= (λ r. names_at (suc (length r)) [] r)

-- behind the version
unfoldable pub head_at : List ℕ → Result (Scope × List ℕ) ℕ
head_at s = do
  after ← fixed_end (codes "\natoms ") s
  order ← structure_at after
  names ← parameters_at order.1
  rest ← fixed_end (codes "\n") names.1
  Ok (record { names = names.0; ordered = order.0 }, rest)

-- the name of a line
unfoldable pub name_at : List ℕ → Result (List ℕ × List ℕ) ℕ
name_at s = word_at s >>= λ x. if is_unreserved x.0 then Ok x else Err (length s)

unfoldable pub line_at : Scope → ℕ → List ℕ → Result (LineD × List ℕ) ℕ
line_at scope n s = do
  name ← name_at s
  after ← fixed_end (codes " = ") name.1
  term ← term_at 64 scope n after
  rest ← fixed_end (codes "\n") term.1
  Ok (record { name = name.0; term = term.0 }, rest)

abbrev pub starts_with : List ℕ → List ℕ → Bool
starts_with text s = is_ok (fixed_end text s)

-- a line of a case follows
unfoldable pub line_follows : List ℕ → Bool
line_follows s = not (starts_with (codes "end\n") s) && not (starts_with (codes "case when ") s)

unfoldable pub lines_at : Scope → ℕ → List ℕ → Result (List LineD × List ℕ) ℕ
lines_at scope n s = many_at line_follows (line_at scope n) (suc (length s)) s

unfoldable pub case_at : Scope → List ℕ → Result (CaseD × List ℕ) ℕ
case_at scope s = do
  after ← fixed_end (codes "case when ") s
  guard ← constraint_at scope (length scope.names) after
  inside ← fixed_end (codes "\n") guard.1
  lines ← lines_at scope (length scope.names) inside
  Ok (record { «when» = guard.0; lines = lines.0 }, lines.1)

unfoldable pub cases_at : Scope → List ℕ → Result (List CaseD × List ℕ) ℕ
cases_at scope s = many_at (begins 99) (case_at scope) (suc (length s)) s

unfoldable pub results_at : List ℕ → Result (Results × List ℕ) ℕ
results_at s = do
  scope ← head_at s
  cases ← cases_at scope.0 scope.1
  rest ← fixed_end (codes "end\n") cases.1
  Ok (record { order = scope.0.ordered; parameters = scope.0.names; cases = cases.0 }, rest)

unfoldable pub place_at : List ℕ → Result (ℕ × List ℕ) ℕ
place_at s = number_at s >>= λ x. given (value_within 1 1048578 x.0) (length s) >>= λ i. Ok (i, x.1)

abbrev pub kind_or : FaultKind → End → Result (FaultKind × List ℕ) ℕ → Result (FaultKind × List ℕ) ℕ
kind_or kind (Ok r) other = Ok (kind, r)
kind_or kind (Err left) other = other

abbrev pub kinds_at : List FaultKind → List ℕ → Result (FaultKind × List ℕ) ℕ
kinds_at [] s = Err (length s)
kinds_at (kind ∷ kinds) s = kind_or kind (fixed_end (kind_text kind) s) (kinds_at kinds s)

abbrev pub all_kinds : List FaultKind
all_kinds = Assertion ∷ NotASet ∷ NotAtoms ∷ NotATuple ∷ NoSuchPart ∷ NotAutomaton ∷ NotDeterministic ∷ NotComplete ∷ TurnLimit ∷ DepthLimit ∷ []

unfoldable pub kind_at : List ℕ → Result (FaultKind × List ℕ) ℕ
kind_at s = kinds_at all_kinds s

-- a line and a column, and a kind
unfoldable pub failure_at : List ℕ → Result ((ℕ × (ℕ × FaultKind)) × List ℕ) ℕ
failure_at s = do
  first ← fixed_end (codes "failed at ") s
  line ← place_at first
  second ← fixed_end (codes ":") line.1
  column ← place_at second
  third ← fixed_end (codes ": ") column.1
  kind ← kind_at third
  rest ← fixed_end (codes "\n") kind.1
  Ok ((line.0, (column.0, kind.0)), rest)

unfoldable pub number_of_choice_at : List ℕ → Result (ℕ × List ℕ) ℕ
number_of_choice_at s = fixed_end (codes " ") s >>= λ t. number_at t >>= λ x. given (value_within 0 (2 ^ 64) x.0) (length t) >>= λ i. Ok (i, x.1)

unfoldable pub numbers_at : List ℕ → Result (List ℕ × List ℕ) ℕ
numbers_at s = many_at (begins 32) number_of_choice_at (suc (length s)) s

-- a choice of at least n numbers
unfoldable pub choice_at : ℕ → List ℕ → Result (List ℕ × List ℕ) ℕ
choice_at n s = do
  first ← fixed_end (codes "choice") s
  numbers ← numbers_at first
  if nat_le n (length numbers.0) then fixed_end (codes "\n") numbers.1 >>= (λ r. Ok (numbers.0, r)) else Err (length numbers.1)

unfoldable pub element_at : Scope → ℕ → List ℕ → Result (LineD × List ℕ) ℕ
element_at scope n s = fixed_end (codes "for ") s >>= line_at scope n

unfoldable pub elements_at : Scope → ℕ → List ℕ → Result (List LineD × List ℕ) ℕ
elements_at scope n s = many_at (begins 102) (element_at scope n) (suc (length s)) s

unfoldable pub trace_at : List ℕ → Result (Trace × List ℕ) ℕ
trace_at s = do
  scope ← head_at s
  failure ← failure_at scope.1
  choice ← choice_at (length scope.0.names) failure.1
  elements ← elements_at scope.0 (length choice.0) choice.1
  rest ← fixed_end (codes "end\n") elements.1
  Ok (
    record {
      order = scope.0.ordered;
      parameters = scope.0.names;
      line = failure.0.0;
      column = failure.0.1.0;
      kind = failure.0.1.1;
      sample = choice.0;
      elements = elements.0;
    },
    rest,
  )

unfoldable pub results_text_at : List ℕ → Result Results ℕ
results_text_at s = fixed_end (codes "lois results 1") s >>= results_at >>= λ x. Ok x.0

unfoldable pub version_at : List ℕ → Result Answer ℕ
version_at s =
    if begins 50 s then fixed_end (codes "2") s >>= trace_at >>= (λ x. Ok (answers.Trace x.0))
    else fixed_end (codes "1") s >>= results_at >>= (λ x. Ok (answers.Results x.0))

unfoldable pub answer_text_at : List ℕ → Result Answer ℕ
answer_text_at s = fixed_end (codes "lois results ") s >>= version_at
