-- `same`: what two scripts print.
use Rattle.std.specs.Prelude.{◌≡◌, ◌↔◌, List, length, map}
use Rattle.lois_base.specs.Atom.{Atom}
use Rattle.lois_answers.specs.declared.results.Results.{Results}
use Rattle.lois_cases.specs.Partitions.{ArePartition}
use Rattle.lois_interp.specs.Interpreted.{AreResultsOf, IsChoiceOf, parameter_name}
use Rattle.lois_meaning.specs.Runs.{ScriptEnds}
use Rattle.lois_meaning.specs.Store.{NamedValues, AreSameNamed}
use Rattle.lois_same.specs.Likenesses.{IsLikeness}
use Rattle.lois_same.specs.declared.comparing.Likeness.{Likeness}
use Rattle.lois_same.specs.declared.comparing.Likeness.TheVariants.{Same}
use Rattle.lois_script.specs.Tree.{ScriptD}

-- both have the same structure and parameters, and run at one choice they print lines of equal names and the same values
pub record PrintTheSame (s t : ScriptD) : Type 0 where
  pub structure : s.ordered ≡ t.ordered
  pub parameters : map parameter_name s.parameters ≡ map parameter_name t.parameters
  pub lines : (c : List Atom) → IsChoiceOf s c → (ls ms : NamedValues) → ScriptEnds s c ls → ScriptEnds t c ms → AreSameNamed ls ms

-- the results of a run are a partition
abbrev pub RunsArePartitioned : Type 0
RunsArePartitioned = (s : ScriptD) (r : Results) → AreResultsOf s r → ArePartition (length r.parameters) r.cases

-- what is found of the results of two scripts is 'same' exactly where they print the same
abbrev pub SameIsOfTheRuns : Type 0
SameIsOfTheRuns = (s t : ScriptD) (r q : Results) (x : Likeness) → AreResultsOf s r → AreResultsOf t q → IsLikeness r q x → (x ≡ Same) ↔ PrintTheSame s t
