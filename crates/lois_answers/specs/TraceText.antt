-- The text of traces.
use Rattle.std.specs.Prelude.{ℕ, List, ◌++◌, length, codes}
use Rattle.std.specs.Fmt.{decimal}
use Rattle.std.specs.List.{flat_map}
use Rattle.lois_answers.specs.ResultsData.{LineD}
use Rattle.lois_answers.specs.ResultsText.{lined, spaced, structure_text, parameters_text, line_text, results_text}
use Rattle.lois_answers.specs.declared.faults.Answer.{Answer}
use Rattle.lois_answers.specs.declared.faults.Answer.TheVariants.{Results, Trace}
use Rattle.lois_answers.specs.declared.faults.FaultKind.{FaultKind}
use Rattle.lois_answers.specs.declared.faults.FaultKind.TheVariants.{Assertion, NotASet, NotAtoms, NotATuple, NoSuchPart, NotAutomaton, NotDeterministic, NotComplete, TurnLimit, DepthLimit}
use Rattle.lois_answers.specs.declared.faults.Trace.{Trace as FailedRun}

abbrev pub kind_text : FaultKind → List ℕ
kind_text Assertion = codes "assertion failed"
kind_text NotASet = codes "not a set"
kind_text NotAtoms = codes "not atoms"
kind_text NotATuple = codes "not a tuple"
kind_text NoSuchPart = codes "no such part"
kind_text NotAutomaton = codes "not an automaton"
kind_text NotDeterministic = codes "not deterministic"
kind_text NotComplete = codes "not complete"
kind_text TurnLimit = codes "turn limit"
kind_text DepthLimit = codes "depth limit"

abbrev pub failure_text : ℕ → ℕ → FaultKind → List ℕ
failure_text line column kind =
    lined (codes "failed at " ++ decimal line ++ codes ":" ++ decimal column ++ codes ": " ++ kind_text kind)

abbrev pub choice_text : List ℕ → List ℕ
choice_text sample = lined (codes "choice" ++ flat_map (λ a. spaced (decimal a)) sample)

-- an element of a loop, inside as many levels as the choice has numbers
abbrev pub element_text : List (List ℕ) → ℕ → LineD → List ℕ
element_text parameters n e = codes "for " ++ line_text parameters n e

abbrev pub trace_text : FailedRun → List ℕ
trace_text t =
    lined (codes "lois results 2") ++ structure_text t.order ++ parameters_text t.parameters
    ++ failure_text t.line t.column t.kind ++ choice_text t.sample
    ++ flat_map (element_text t.parameters (length t.sample)) t.elements ++ lined (codes "end")

abbrev pub answer_text : Answer → List ℕ
answer_text (Results r) = results_text r
answer_text (Trace t) = trace_text t
