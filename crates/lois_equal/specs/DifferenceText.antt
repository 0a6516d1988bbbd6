-- The text of a difference.
use Rattle.std.specs.Prelude.{ℕ, List, ◌++◌, length, codes}
use Rattle.std.specs.Fmt.{decimal}
use Rattle.std.specs.List.{flat_map}
use Rattle.lois_base.specs.Data.{TermD}
use Rattle.lois_answers.specs.ResultsText.{lined}
use Rattle.lois_answers.specs.TermText.{term_text}
use Rattle.lois_answers.specs.TraceText.{choice_text}
use Rattle.lois_equal.specs.declared.differing.Difference.{Difference}

-- a letter inside n levels
abbrev pub letter_text : List (List ℕ) → ℕ → TermD → List ℕ
letter_text parameters n t = lined (codes "letter " ++ term_text parameters n t)

-- a difference in the case of that number; its letters are inside as many levels as the choice has numbers
abbrev pub difference_text : List (List ℕ) → ℕ → Difference → List ℕ → List ℕ
difference_text parameters number d name =
    lined (codes "differ in case " ++ decimal number) ++ choice_text d.sample
    ++ flat_map (letter_text parameters (length d.sample)) d.word ++ lined (codes "accepted by " ++ name)
