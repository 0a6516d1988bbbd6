-- What stands before an item of a list that is written with something between its items.
use Rattle.std.specs.Prelude.{ℕ, zero, suc, List, []}

abbrev pub separator : ℕ → List ℕ → List ℕ
separator zero between = []
separator (suc index) between = between
