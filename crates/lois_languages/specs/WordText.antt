-- The text of a word.
use Rattle.std.specs.Prelude.{ℕ, List, ◌++◌, codes, length}
use Rattle.std.specs.Fmt.{decimal}
use Rattle.std.specs.List.{flat_map}
use Rattle.lois_answers.specs.ResultsText.{lined}
use Rattle.lois_answers.specs.TraceText.{choice_text}
use Rattle.lois_equal.specs.DifferenceText.{letter_text}
use Rattle.lois_shortest_word.specs.declared.words.Word.{Word}

-- a word that is accepted in the case of that number; its letters are inside as many levels as the choice has numbers
abbrev pub word_text : List (List ℕ) → ℕ → Word → List ℕ
word_text parameters number w =
    lined (codes "accepted in case " ++ decimal number) ++ choice_text w.sample ++ flat_map (letter_text parameters (length w.sample)) w.letters
