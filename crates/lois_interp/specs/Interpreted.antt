-- What the results of a script say, and what its failure says.
use Rattle.std.specs.Prelude.{◌≡◌, ℕ, ◌≤◌, List, [], ◌∷◌, ◌++◌, length, map, IsTrue}
use Rattle.std.specs.List.{All, AllPairs}
use Rattle.lois_base.specs.Atom.{Atom}
use Rattle.lois_base.specs.Normal.{IsNormal}
use Rattle.lois_base.specs.Truth.{holds}
use Rattle.lois_base.specs.declared.guards.Lit.{Lit}
use Rattle.lois_constraint.specs.Normalised.{IsNormalised}
use Rattle.lois_simplify.specs.Irredundant.{HasNormalGuards}
use Rattle.lois_simplify.specs.Plain.{IsPlain, HasPlainGuards}
use Rattle.lois_answers.specs.ResultsData.{LineD, CaseD}
use Rattle.lois_answers.specs.Sound.{IsSound}
use Rattle.lois_answers.specs.declared.faults.FaultKind.{FaultKind}
use Rattle.lois_answers.specs.declared.results.Results.{Results}
use Rattle.lois_cases.specs.CaseCount.{patterns}
use Rattle.lois_script.specs.Tree.{ParamD, StmtD, ScriptD}
use Rattle.lois_script.specs.View.{stmts_of}
use Rattle.lois_meaning.specs.Runs.{ListEnds, StmtFails, ScriptEnds}
use Rattle.lois_meaning.specs.Store.{NamedValues, AreSameNamed, opening}
use Rattle.lois_context.specs.LineValues.{line_values}

abbrev pub parameter_name : ParamD → List ℕ
parameter_name x = x.name

-- an atom for each parameter
abbrev pub IsChoiceOf : ScriptD → List Atom → Type 0
IsChoiceOf s choice = length choice ≡ length s.parameters

abbrev pub HoldsAt : List Atom → CaseD → Type 0
HoldsAt choice c = IsTrue (holds choice c.«when»)

-- The script ends at the choice with as many lines, of equal names and the same values.
pub record PrintsAt (s : ScriptD) (choice : List Atom) (lines : List LineD) : Type 0 where
  pub printed : NamedValues
  pub ends : ScriptEnds s choice printed
  pub values : AreSameNamed (line_values choice lines) printed

-- Exactly one case holds at the choice, and its lines are those that the script prints there.
pub record IsRightAt (s : ScriptD) (cases : List CaseD) (choice : List Atom) : Type 0 where
  pub before : List CaseD
  pub one : CaseD
  pub behind : List CaseD
  pub among : cases ≡ before ++ one ∷ behind
  pub here : HoldsAt choice one
  pub none_before : All (λ c. HoldsAt choice c → ⊥) before
  pub none_behind : All (λ c. HoldsAt choice c → ⊥) behind
  pub lines : PrintsAt s choice one.lines

abbrev pub HoldsSomewhere : ScriptD → CaseD → Type 0
HoldsSomewhere s c = (choice : List Atom) × IsChoiceOf s choice × HoldsAt choice c

-- the term is normal where the constraint holds, and its guards are normalised
abbrev pub IsNormalLine : ℕ → List (List Lit) → LineD → Type 0
IsNormalLine n u l = IsNormal l.term u n × HasNormalGuards l.term

-- the constraint is normalised, and each line's term is normal where it holds
abbrev pub IsNormalCase : ℕ → CaseD → Type 0
IsNormalCase n c = IsNormalised c.«when» × All (IsNormalLine n c.«when») c.lines

-- what holds at all choices is `true`: the constraint, and each guard under what surrounds it
abbrev pub IsPlainCase : ℕ → CaseD → Type 0
IsPlainCase n c = IsPlain c.«when» ([] ∷ []) n × All (λ l. HasPlainGuards l.term c.«when» n) c.lines

abbrev pub lines_of : CaseD → List LineD
lines_of c = c.lines

-- The results are those of the script. No two cases have equal lines, and there are at most as many as the parameters have patterns.
pub record AreResultsOf (s : ScriptD) (r : Results) : Type 0 where
  pub sound : IsSound r
  pub structure : r.order ≡ s.ordered
  pub parameters : r.parameters ≡ map parameter_name s.parameters
  pub met : All (HoldsSomewhere s) r.cases
  pub choices : (choice : List Atom) → IsChoiceOf s choice → IsRightAt s r.cases choice
  pub normal : All (IsNormalCase (length s.parameters)) r.cases
  pub plain : All (IsPlainCase (length s.parameters)) r.cases
  pub different : AllPairs (λ x y. x ≡ y → ⊥) (map lines_of r.cases)
  pub few : length r.cases ≤ patterns r.order (length r.parameters) 0

-- The script fails at one of its statements, behind others that end at every choice.
pub record FailsBehindEnds (s : ScriptD) (choice : List Atom) (at : ℕ) (kind : FaultKind) (path : NamedValues) : Type 0 where
  pub before : List StmtD
  pub one : StmtD
  pub behind : List StmtD
  pub body : s.body ≡ stmts_of (before ++ one ∷ behind)
  pub end_always : (c : List Atom) → IsChoiceOf s c → (t lines : NamedValues) × ListEnds (stmts_of before) (opening s.parameters c) t lines
  pub fails : (t lines : NamedValues) × ListEnds (stmts_of before) (opening s.parameters choice) t lines × StmtFails one t at kind path
