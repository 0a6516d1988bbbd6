-- The status and the text of each outcome.
use Rattle.std.specs.Prelude.{◌≤◌, ℕ, List, [], ◌++◌, length, codes, Option}
use Rattle.std.specs.Fmt.{decimal}
use Rattle.std.specs.List.{All}
use Rattle.lois_base.specs.Fits.{Fits}
use Rattle.lois_base.specs.Validity.{HasBoundedWidths}
use Rattle.lois_answers.specs.ResultsText.{lined, results_text}
use Rattle.lois_answers.specs.Sound.{IsSound, IsSoundTrace}
use Rattle.lois_answers.specs.TraceText.{trace_text, answer_text}
use Rattle.lois_answers.specs.declared.faults.FaultKind.{FaultKind}
use Rattle.lois_answers.specs.declared.faults.FaultKind.TheVariants.{Assertion, TurnLimit, DepthLimit}
use Rattle.lois_census.specs.CensusData.{CensusD}
use Rattle.lois_census.specs.CensusText.{censuses_text}
use Rattle.lois_census.specs.OrbitData.{OrbitD}
use Rattle.lois_equal.specs.DifferenceText.{difference_text}
use Rattle.lois_equal.specs.declared.differing.Difference.{Difference}
use Rattle.lois_script.specs.View.{script_tree}
use Rattle.lois_reader.specs.Refusal.{IsSoundAnswer}
use Rattle.lois_script_printer.specs.Printed.{printed_script}
use Rattle.lois_script_printer.specs.Unplaced.{IsSpelled}
use Rattle.lois_command.specs.Texts.{placed_text, refused_case_text}
use Rattle.lois_run.specs.Texts.{lexical_text, syntax_text, scope_text}
use Rattle.lois_run.specs.declared.outcomes.Made.{Made}
use Rattle.lois_run.specs.declared.outcomes.Outcome.{Outcome}
use Rattle.lois_run.specs.declared.outcomes.Outcome.TheVariants.{Completed, Failed, Reread, Checked, Made as WasMade, Same, Differ, Translated, Census, Refused, ReadFault, Usage}
use Rattle.lois_run.specs.declared.outcomes.Refusal.{Refusal}
use Rattle.lois_run.specs.declared.outcomes.Refusal.TheVariants.{TooLong, Lexical, Syntax, Scope, NotResults, NotRegisters, NoLine, NotDeterministic, HasParameters, NotASet}
use Rattle.lois_command.specs.Calls.{Puts, TextIsWritten}

-- a false assertion, a limit of turns, a limit of depth; any other is a value of the wrong kind
abbrev pub failure_status : FaultKind → ℕ
failure_status Assertion = 1
failure_status TurnLimit = 3
failure_status DepthLimit = 4
failure_status _ = 2

abbrev pub status_of : Outcome → ℕ
status_of (Completed r) = 0
status_of (Failed t) = failure_status t.kind
status_of (Reread answer) = 0
status_of (Checked script) = 0
status_of (WasMade counts) = 0
status_of Same = 0
status_of (Differ k d name parameters) = 10
status_of (Translated r) = 0
status_of (Census cs) = 0
status_of (Refused refusal) = 5
status_of ReadFault = 6
status_of Usage = 9

abbrev pub refusal_text : Refusal → List ℕ
refusal_text TooLong = codes "refused: input over 1048576 bytes"
refusal_text (Lexical n place) = placed_text place (lexical_text n)
refusal_text (Syntax n place) = placed_text place (syntax_text n)
refusal_text (Scope n place) = placed_text place (scope_text n)
refusal_text (NotResults place) = placed_text place (codes "not results")
refusal_text (NotRegisters place) = placed_text place (codes "not a register automaton")
refusal_text (NoLine name k) = refused_case_text (codes "no line ") name k []
refusal_text (NotDeterministic name k) = refused_case_text [] name k (codes " is no deterministic automaton")
refusal_text HasParameters = codes "refused: census of results with parameters"
refusal_text (NotASet name k) = refused_case_text [] name k (codes " is no set")

abbrev pub made_text : Made → List ℕ
made_text counts =
    lined (codes "statements " ++ decimal counts.statements) ++ lined (codes "bytes " ++ decimal counts.bytes) ++
    lined (codes "cases " ++ decimal counts.cases) ++ lined (codes "comprehensions " ++ decimal counts.comprehensions)

-- a read fault writes nothing
abbrev pub outcome_text : Outcome → List ℕ
outcome_text (Completed r) = results_text r
outcome_text (Failed t) = trace_text t
outcome_text (Reread answer) = answer_text answer
outcome_text (Checked script) = printed_script (script_tree script)
outcome_text (WasMade counts) = made_text counts
outcome_text Same = lined (codes "equal")
outcome_text (Differ k d name parameters) = difference_text parameters k d name
outcome_text (Translated r) = results_text r
outcome_text (Census cs) = censuses_text cs
outcome_text (Refused refusal) = lined (refusal_text refusal)
outcome_text ReadFault = []
outcome_text Usage = lined (codes "usage: lois run|check|reread|make N|equal A B|registers|census A [--decider plain|graph|memo]")

-- the number is one of its table
abbrev pub HasCauseNumber : Refusal → Type 0
HasCauseNumber (Lexical n place) = (1 ≤ n) × (n ≤ 3)
HasCauseNumber (Syntax n place) = (1 ≤ n) × (n ≤ 4)
HasCauseNumber (Scope n place) = (1 ≤ n) × (n ≤ 5)
HasCauseNumber _ = Unit {0}

-- each term of a difference or of an orbit fits the length of the sample beside it, and has the usual widths
pub record CanBeWritten (d : Difference) : Type 0 where
  pub levels : All (Fits (length d.sample)) d.word
  pub widths : All HasBoundedWidths d.word

pub record IsWritable (o : OrbitD) : Type 0 where
  pub levels : Fits (length o.sample) o.item
  pub widths : HasBoundedWidths o.item

abbrev pub CanBeListed : CensusD → Type 0
CanBeListed c = All IsWritable c.orbits

-- the outcome can be written
abbrev pub HasText : Outcome → Type 0
HasText (Completed r) = IsSound r
HasText (Failed t) = IsSoundTrace t
HasText (Reread answer) = IsSoundAnswer answer
HasText (Checked script) = IsSpelled (script_tree script)
HasText (Differ k d name parameters) = CanBeWritten d
HasText (Translated r) = IsSound r
HasText (Census cs) = All CanBeListed cs
HasText (Refused refusal) = HasCauseNumber refusal
HasText _ = Unit {0}

-- the status is the outcome's, and its text is written
abbrev pub OutcomeIsWritten : {K : Type 0} → (K → Option (List ℕ)) → (K → ℕ) → Puts K → K → K → Outcome → ℕ → Type 0
OutcomeIsWritten {K} held faults puts from to o status = TextIsWritten held faults puts from to (outcome_text o) (status_of o) status
