-- How many patterns choices of atoms have, and so how many cases a partition can have at most.
use Rattle.std.specs.Prelude.{ℕ, zero, suc, ◌+◌, ◌*◌, Bool, true, false}

-- the places of an atom that differs from k different ones: over an order it is below, between or above them
abbrev pub gaps : Bool → ℕ → ℕ
gaps true k = suc k
gaps false k = 1

-- in how many patterns n more atoms stand beside k different ones: each is one of those, or one more. Beside none these are the
-- weak orders of n things, and over equality their partitions
abbrev pub patterns : Bool → ℕ → ℕ → ℕ
patterns ordered zero k = 1
patterns ordered (suc n) k = k * patterns ordered n k + gaps ordered k * patterns ordered n (suc k)
