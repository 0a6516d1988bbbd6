-- Results that say the same.
use Rattle.std.specs.Prelude.{◌≡◌, ℕ, List, length}
use Rattle.lois_base.specs.Atom.{Atom}
use Rattle.lois_answers.specs.ResultsData.{CaseD}
use Rattle.lois_answers.specs.declared.results.Results.{Results}
use Rattle.lois_cases.specs.Cases.{IsTheCaseAt}
use Rattle.lois_context.specs.LineValues.{line_values}
use Rattle.lois_meaning.specs.Store.{AreSameNamed}

-- at the choice c the lines have the same names and values, one by one
abbrev pub HaveSameLinesAt : List Atom → CaseD → CaseD → Type 0
HaveSameLinesAt c k l = AreSameNamed (line_values c k.lines) (line_values c l.lines)

-- equal structures and parameters; and at each choice of the parameters the cases that hold there have the same lines
pub record AreSameResults (r q : Results) : Type 0 where
  pub structure : r.order ≡ q.order
  pub parameters : r.parameters ≡ q.parameters
  pub lines : (c : List Atom) → length c ≡ length r.parameters → (i j : ℕ) (k l : CaseD) → IsTheCaseAt c r.cases i k → IsTheCaseAt c q.cases j l → HaveSameLinesAt c k l
