-- Comprehensions of a set that may have a value, by their places.
use Rattle.std.specs.Prelude.{◌≡◌, ℕ, Option, None, Some, List, [], ◌∷◌, slice_get, Contains}
use Rattle.lois_base.specs.Atom.{Atom}
use Rattle.lois_base.specs.Data.{TermD, CompD, CompsD, no_comps, more}
use Rattle.lois_base.specs.Values.{OneIsAt}

abbrev pub with_comp : Option CompD → CompsD → CompsD
with_comp None rest = rest
with_comp (Some k) rest = more k rest

-- the comprehensions that stand at the places
abbrev pub comps_at : List CompD → List ℕ → CompsD
comps_at ks [] = no_comps
comps_at ks (i ∷ places) = with_comp (slice_get ks i) (comps_at ks places)

-- each comprehension that has the value of t, at some two choices, stands at one of the places
abbrev pub AreCandidates : List CompD → TermD → List ℕ → Type 0
AreCandidates ks t places =
    (i : ℕ) (k : CompD) (c d : List Atom) → slice_get ks i ≡ Some k → OneIsAt k c t d → Contains places i
