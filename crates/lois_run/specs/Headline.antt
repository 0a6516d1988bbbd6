-- The headline: a script either completes, and the results list for every choice of the parameters exactly one case, whose values
-- are those that the infinite run prints; or a place, a kind, a choice and the elements of loops are named with which that run fails.
use Rattle.std.specs.Prelude.{◌≡◌, ℕ, ◌≤◌, ◌⊎◌, List, length, map, take}
use Rattle.lois_base.specs.Atom.{Atom}
use Rattle.lois_base.specs.Truth.{sampled}
use Rattle.lois_base.specs.declared.limits.TheConstants.{LONGEST_TEXT}
use Rattle.lois_answers.specs.ResultsText.{results_text}
use Rattle.lois_answers.specs.Sound.{IsSound, IsSoundTrace}
use Rattle.lois_answers.specs.declared.faults.FaultKind.{FaultKind}
use Rattle.lois_answers.specs.declared.faults.Trace.{Trace}
use Rattle.lois_answers.specs.declared.results.Results.{Results}
use Rattle.lois_script.specs.Limits.{Spells}
use Rattle.lois_script.specs.Scope.{IsWellScoped}
use Rattle.lois_script.specs.Tree.{ScriptD}
use Rattle.lois_meaning.specs.Runs.{ScriptFails}
use Rattle.lois_meaning.specs.Store.{NamedValues, AreSameNamed}
use Rattle.lois_context.specs.LineValues.{line_values}
use Rattle.lois_interp.specs.Interpreted.{parameter_name, IsChoiceOf, AreResultsOf, FailsBehindEnds}
use Rattle.lois_command.specs.Places.{IsPlaceOf}
use Rattle.lois_ranks.specs.Ranks.{AreRanks}
use Rattle.lois_shortest_word.specs.Words.{AreUsedBetween}
use Rattle.lois_run.specs.declared.outcomes.Outcome.{Outcome}
use Rattle.lois_run.specs.declared.outcomes.Outcome.TheVariants.{Completed, Failed, ReadFault}

-- The results are those of the script, and what is written of them is read again as these results: it is the text of no others.
pub record Completes (s : ScriptD) (r : Results) : Type 0 where
  pub results : AreResultsOf s r
  pub read_again : (q : Results) → IsSound q → results_text q ≡ results_text r → q ≡ r

-- The trace names where the script that the text spells fails, how, and under which choice: the first numbers of its sample,
-- one for each parameter. The statements before the one that holds the place end at every choice. The path of the failure has the
-- names of the trace's elements, and their values at the whole sample. The further numbers are for levels that stand in an
-- element. All numbers are ranks: by order where atoms are ordered, else each is how many others stand before its first place.
pub record NamesFailure (text : List ℕ) (s : ScriptD) (t : Trace) : Type 0 where
  pub sound : IsSoundTrace t
  pub structure : t.order ≡ s.ordered
  pub parameters : t.parameters ≡ map parameter_name s.parameters
  pub at : ℕ
  pub place : IsPlaceOf text at (record { line = t.line; column = t.column })
  pub path : NamedValues
  pub failed : ScriptFails s (sampled (take (length s.parameters) t.sample)) at t.kind path
  pub first : FailsBehindEnds s (sampled (take (length s.parameters) t.sample)) at t.kind path
  pub named : AreSameNamed path (line_values (sampled t.sample) t.elements)
  pub used : AreUsedBetween (length s.parameters) (length t.sample) (map (λ l. l.term) t.elements)
  pub ranked : AreRanks s.ordered t.sample

-- under some choice of the parameters
abbrev pub FailsSomewhere : ScriptD → Type 0
FailsSomewhere s =
    (choice : List Atom) × IsChoiceOf s choice × (at : ℕ) × (kind : FaultKind) × (path : NamedValues) × ScriptFails s choice at kind path

abbrev pub IsCompleted : Outcome → Type 0
IsCompleted o = (r : Results) × (o ≡ Completed r)

abbrev pub IsFailed : Outcome → Type 0
IsFailed o = (t : Trace) × (o ≡ Failed t)

abbrev pub UnlessReadFault : Type 0 → Type 0 → Outcome → Type 0
UnlessReadFault ran fault o = ran ⊎ ((o ≡ ReadFault) × fault)

-- what completed or failed is that script
abbrev pub IsRight : List ℕ → ScriptD → Outcome → Type 0
IsRight text s (Completed r) = Completes s r
IsRight text s (Failed t) = NamesFailure text s t
IsRight text s _ = Unit {0}

-- the text spells this well-scoped script, within the limits
pub record IsToRun (text : List ℕ) (s : ScriptD) : Type 0 where
  pub fits : length text ≤ LONGEST_TEXT
  pub spelled : Spells text s
  pub scoped : IsWellScoped s

-- For a text that was to be run. A fault is that the source's count of faults rose. Nothing fails and completes; that a script
-- does one of the two isn't told by whether some choice fails, so it is said by itself.
pub record Headline (text : List ℕ) (fault : Type 0) (o : Outcome) : Type 0 where
  pub runs : (s : ScriptD) → IsToRun text s → UnlessReadFault (IsCompleted o ⊎ IsFailed o) fault o
  pub completes : (s : ScriptD) → IsToRun text s → (FailsSomewhere s → ⊥) → UnlessReadFault (IsCompleted o) fault o
  pub fails : (s : ScriptD) → IsToRun text s → FailsSomewhere s → UnlessReadFault (IsFailed o) fault o
  pub right : (s : ScriptD) → Spells text s → IsRight text s o
