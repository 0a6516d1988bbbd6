-- What a call of `take` gave.
use Rattle.std.specs.Prelude.{ℕ, List, take, Option, Result}
use Rattle.std.specs.Option.{option_map}
use Rattle.std.specs.Result.{result_ok}

-- what a call of `take` gave: the bytes at the front of the slice, or none at all where it failed
abbrev pub given_bytes : {E : Type 0} → Result ℕ E → List ℕ → Option (List ℕ)
given_bytes answer slice = option_map (λ n. take n slice) (result_ok answer)
