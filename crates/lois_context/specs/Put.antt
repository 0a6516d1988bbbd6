-- Sets that get members, and are taken apart. What is written in a set already isn't put there again.
use Rattle.std.specs.Prelude.{◌≡◌, ◌⊎◌, ℕ, List, [], ◌∷◌, ◌++◌, take, drop}
use Rattle.std.specs.List.{Contains}
use Rattle.lois_base.specs.Data.{TermD, coll, CompD, comps_of}
use Rattle.lois_context.specs.Entered.{comps_listed}

-- the list with the comprehension at its end, or as it was where it has it
abbrev pub IsPutOnce : List CompD → CompD → List CompD → Type 0
IsPutOnce ks k ls = (ls ≡ ks ++ k ∷ []) ⊎ (Contains ks k × (ls ≡ ks))

-- the first comprehensions of a set, and those behind them
abbrev pub AreParts : ℕ → List CompD → List CompD → List CompD → Type 0
AreParts first ks old added = (old ≡ take first ks) × (added ≡ drop first ks)

-- a set with the comprehension, which may stand at its end
abbrev pub IsWithOnce : TermD → CompD → TermD → Type 0
IsWithOnce set k t = (ls : List CompD) × IsPutOnce (comps_listed set) k ls × (t ≡ coll (comps_of ls))
