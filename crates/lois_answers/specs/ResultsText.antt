-- The text of results.
use Rattle.std.specs.Prelude.{ℕ, Bool, true, false, List, ◌∷◌, [], ◌++◌, length, codes}
use Rattle.std.specs.List.{flat_map}
use Rattle.lois_answers.specs.ResultsData.{LineD, CaseD}
use Rattle.lois_answers.specs.TermText.{constraint_text, term_text}
use Rattle.lois_answers.specs.declared.results.Results.{Results}

-- a text with the end of its line
abbrev pub lined : List ℕ → List ℕ
lined text = text ++ 10 ∷ []

abbrev pub structure_text : Bool → List ℕ
structure_text false = lined (codes "atoms equality")
structure_text true = lined (codes "atoms order")

abbrev pub spaced : List ℕ → List ℕ
spaced word = codes " " ++ word

abbrev pub parameters_text : List (List ℕ) → List ℕ
parameters_text parameters = lined (codes "parameters" ++ flat_map spaced parameters)

-- a name and its term inside n levels
abbrev pub line_text : List (List ℕ) → ℕ → LineD → List ℕ
line_text parameters n l = lined (l.name ++ codes " = " ++ term_text parameters n l.term)

abbrev pub case_text : List (List ℕ) → CaseD → List ℕ
case_text parameters c =
    lined (codes "case when " ++ constraint_text parameters c.«when») ++ flat_map (line_text parameters (length parameters)) c.lines

abbrev pub results_text : Results → List ℕ
results_text r =
    lined (codes "lois results 1") ++ structure_text r.order ++ parameters_text r.parameters
    ++ flat_map (case_text r.parameters) r.cases ++ lined (codes "end")
