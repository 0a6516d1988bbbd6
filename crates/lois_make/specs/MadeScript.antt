-- The script that `make` runs: so many loops over pairs of different atoms, each of which adds its pairs to one set.
use Rattle.std.specs.Prelude.{ℕ, zero, suc, ◌+◌, ◌%◌, List, [], ◌∷◌, ◌++◌, codes}
use Rattle.lois_answers.specs.ResultsText.{lined}

-- the tags of the loops are k0 to k6, again and again
abbrev pub made_loop : ℕ → List ℕ
made_loop i =
    codes "for x in atoms { for y in atoms { if x != y { add ('k" ++ (48 + i % 7) ∷ [] ++ lined (codes ", x, y) to s; } } }")

-- the first n loops
abbrev pub made_loops : ℕ → List ℕ
made_loops zero = []
made_loops (suc n) = made_loops n ++ made_loop n

abbrev pub made_script : ℕ → List ℕ
made_script n =
    lined (codes "atoms equality;") ++ lined (codes "let s = {};") ++ made_loops n ++ lined (codes "print s;")
