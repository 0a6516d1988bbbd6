-- The last line of a name: where several lines have it, that one counts.
use Rattle.std.specs.Prelude.{ℕ, List, [], ◌∷◌, filter, bytes_eq, Option, Some, None}
use Rattle.lois_answers.specs.ResultsData.{LineD}

abbrev pub last_line : List LineD → Option LineD
last_line [] = None
last_line (l ∷ []) = Some l
last_line (l ∷ next ∷ lines) = last_line (next ∷ lines)

-- the lines that have the name
abbrev pub lines_named : List ℕ → List LineD → List LineD
lines_named name lines = filter (λ l. bytes_eq l.name name) lines

-- the last of them, if there is one
abbrev pub last_named : List ℕ → List LineD → Option LineD
last_named name lines = last_line (lines_named name lines)
