-- What results of the made script come to.
use Rattle.std.specs.Prelude.{◌≡◌, ℕ, min, [], ◌∷◌, codes}
use Rattle.lois_answers.specs.ResultsData.{LineD, CaseD}
use Rattle.lois_answers.specs.declared.results.Results.{Results}
use Rattle.lois_context.specs.ItemCounts.{comps_in}

-- One case, with one line, the set `s`, which has a comprehension for each of the tags: there are seven.
pub record HasMadeCounts (n : ℕ) (r : Results) : Type 0 where
  pub one : CaseD
  pub line : LineD
  pub cases : r.cases ≡ one ∷ []
  pub lines : one.lines ≡ line ∷ []
  pub name : line.name ≡ codes "s"
  pub comprehensions : comps_in line.term ≡ min n 7
