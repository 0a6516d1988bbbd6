-- The positions at which a list has a number.
use Rattle.std.specs.Prelude.{ℕ, suc, ◌==◌, if◌then◌else◌, List, [], ◌∷◌, ◌++◌, Option, Some, None}
use Rattle.smallvec.specs.SmallVec.{SmallVec}

-- ascending, counted from k on
abbrev pub positions_from : ℕ → ℕ → List ℕ → List ℕ
positions_from k x [] = []
positions_from k x (y ∷ ys) = (if (y == x) then (k ∷ []) else []) ++ positions_from (suc k) x ys

abbrev pub positions_of : ℕ → List ℕ → List ℕ
positions_of = positions_from 0

-- what a table has for a number: none where it has no entry
abbrev pub listed : Option (SmallVec ℕ) → List ℕ
listed None = []
listed (Some ps) = ps.items
