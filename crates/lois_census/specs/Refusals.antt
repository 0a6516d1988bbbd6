-- Why there is no census of results.
use Rattle.std.specs.Prelude.{◌≡◌, ℕ, ◌+◌, ◌<◌, Bool, List, [], ◌∷◌, ◌++◌, length}
use Rattle.std.specs.List.{All}
use Rattle.lois_answers.specs.ResultsData.{CaseD}
use Rattle.lois_answers.specs.declared.results.Results.{Results}
use Rattle.lois_census.specs.CensusData.{CensusD}
use Rattle.lois_census.specs.Censuses.{HasNamedLine, HasSet, numbered, AreCensusesOf, HaveText}
use Rattle.lois_census.specs.declared.counting.Answer.{Answer}
use Rattle.lois_census.specs.declared.counting.Answer.TheVariants.{Listed, Refused}
use Rattle.lois_census.specs.declared.counting.Refusal.{Refusal}
use Rattle.lois_census.specs.declared.counting.Refusal.TheVariants.{HasParameters, NoLine, NotASet}

-- the case of this number, counted from 1, lacks what each case before it has
pub record IsFirstWithout (Has : CaseD → Type 0) (cases : List CaseD) (number : ℕ) : Type 0 where
  pub before : List CaseD
  pub case : CaseD
  pub after : List CaseD
  pub parted : cases ≡ before ++ case ∷ after
  pub counted : number ≡ length before + 1
  pub have : All Has before
  pub lacks : Has case → ⊥

-- The causes exclude each other: there are parameters; there are none, and a case has no line of the name; there are none, each
-- case has one, and that of some case is no set.
abbrev pub IsCensusRefusal : Results → List ℕ → Refusal → Type 0
IsCensusRefusal r name HasParameters = 0 < length r.parameters
IsCensusRefusal r name (NoLine n number) =
    (r.parameters ≡ []) × (n ≡ name) × IsFirstWithout (HasNamedLine name) r.cases number
IsCensusRefusal r name (NotASet n number) =
    (r.parameters ≡ []) × (n ≡ name) × All (HasNamedLine name) r.cases × IsFirstWithout (HasSet name) r.cases number

-- there are no parameters, each case has a set of the name, and these are the orbits in those whose constraint holds; cases count
-- from 1
pub record AreCensusesIn (ordered : Bool) (r : Results) (name : List ℕ) (es : List CensusD) : Type 0 where
  pub parameters : r.parameters ≡ []
  pub sets : All (HasSet name) r.cases
  pub censuses : AreCensusesOf ordered name (numbered 1 r.cases) es
  pub text : HaveText es

abbrev pub IsCensusAnswer : Bool → Results → List ℕ → Answer → Type 0
IsCensusAnswer ordered r name (Listed es) = AreCensusesIn ordered r name es
IsCensusAnswer ordered r name (Refused cause) = IsCensusRefusal r name cause
