-- Lines of refusals.
use Rattle.std.specs.Prelude.{ℕ, List, ◌++◌, codes}
use Rattle.std.specs.Fmt.{decimal}
use Rattle.lois_lexer.specs.declared.Place.{Place}

-- a refusal at a place of the text
abbrev pub placed_text : Place → List ℕ → List ℕ
placed_text place cause = codes "refused at " ++ decimal place.line ++ codes ":" ++ decimal place.column ++ codes ": " ++ cause

-- a refusal that names a line of results and the case
abbrev pub refused_case_text : List ℕ → List ℕ → ℕ → List ℕ → List ℕ
refused_case_text before name case behind = codes "refused: " ++ before ++ name ++ codes " in case " ++ decimal case ++ behind
