-- Two results texts, one behind the other.
use Rattle.std.specs.Prelude.{ℕ, suc, List, [], ◌∷◌, length, codes, take, drop, nat_eq, if◌then◌else◌}
use Rattle.std.specs.List.{starts_with}
use Rattle.lois_answers.specs.ResultsText.{lined}

-- the end of a line, and then a line `end`
abbrev pub end_mark : List ℕ
end_mark = 10 ∷ lined (codes "end")

-- how many bytes there are up to the first end mark's end; all, where there is none
abbrev pub first_length : List ℕ → ℕ
first_length [] = 0
first_length (b ∷ bs) = if (starts_with nat_eq (b ∷ bs) end_mark) then (length end_mark) else (suc (first_length bs))

abbrev pub first_text : List ℕ → List ℕ
first_text text = take (first_length text) text

abbrev pub second_text : List ℕ → List ℕ
second_text text = drop (first_length text) text
