-- Words of a command line that are no options.
use Rattle.std.specs.Prelude.{ℕ, ◌==◌, Bool, false, not, List, [], ◌∷◌}
use Rattle.std.specs.List.{list_all}

-- the word begins with a hyphen
abbrev pub is_dashed : List ℕ → Bool
is_dashed [] = false
is_dashed (b ∷ bs) = b == 45

abbrev pub is_plain : List ℕ → Bool
is_plain word = not (is_dashed word)

abbrev pub are_plain : List (List ℕ) → Bool
are_plain words = list_all is_plain words
