-- Ranks: numbers from 0 on without gaps, which say of atoms nothing but how they stand to one another.
use Rattle.std.specs.Prelude.{ℕ, ◌<◌, Bool, true, false, List, length, get_or, take}
use Rattle.std.specs.List.{Contains}

-- each number below one of them is among them: a number is how many smaller ones there are
abbrev pub HaveNoGaps : List ℕ → Type 0
HaveNoGaps s = (n k : ℕ) → Contains s n → k < n → Contains s k

-- each number stands behind all that are below it: a number is how many others stand before its first place
abbrev pub ComeInTurn : List ℕ → Type 0
ComeInTurn s = (i k : ℕ) → i < length s → k < get_or s i 0 → Contains (take i s) k

-- where atoms are ordered, their ranks; else their numbers in the order in which they come
abbrev pub AreRanks : Bool → List ℕ → Type 0
AreRanks true s = HaveNoGaps s
AreRanks false s = ComeInTurn s
