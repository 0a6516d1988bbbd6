-- The places of numbers in a list of different ones.
use Rattle.std.specs.Prelude.{◌≡◌, ℕ, ◌<◌, ◌≤◌, ◌⊎◌, List, [], ◌∷◌, ◌++◌, length, get_or, Option, Some, None}
use Rattle.std.specs.List.{Contains}
use Rattle.std.specs.List.Sorted.{IsStrictlyIncreasing}
use Rattle.lois_ranks.specs.Ranks.{ComeInTurn}

-- the number stands at this place
pub record StandsAt (values : List ℕ) (number place : ℕ) : Type 0 where
  pub inside : place < length values
  pub there : get_or values place 0 ≡ number

-- the place where the number stands, or none where it doesn't
abbrev pub IsPlaceIn : List ℕ → ℕ → Option ℕ → Type 0
IsPlaceIn values number (Some place) = StandsAt values number place
IsPlaceIn values number None = Contains values number → ⊥

-- where the number stands among the new values, which are the old ones and, where it isn't one of them, the number behind them
abbrev pub IsPlacedIn : List ℕ → ℕ → List ℕ → ℕ → Type 0
IsPlacedIn old number new place =
    ((new ≡ old) × StandsAt old number place) ⊎ ((new ≡ old ++ number ∷ []) × (place ≡ length old) × (Contains old number → ⊥))

-- for each number of the sample the place where it stands among the values
pub record ArePlaces (values sample places : List ℕ) : Type 0 where
  pub count : length places ≡ length sample
  pub stand : (i : ℕ) → i < length sample → StandsAt values (get_or sample i 0) (get_or places i 0)

-- the numbers of the sample, each once, in order
pub record AreSortedValues (sample values : List ℕ) : Type 0 where
  pub rising : IsStrictlyIncreasing values
  pub all : (n : ℕ) → Contains sample n → Contains values n
  pub alone : (n : ℕ) → Contains values n → Contains sample n
  pub short : length values ≤ length sample

-- no number stands at two places
abbrev pub AreDifferent : List ℕ → Type 0
AreDifferent values = (i k : ℕ) → i < length values → k < length values → get_or values i 0 ≡ get_or values k 0 → i ≡ k

-- a list of different values, the places of a sample's numbers among them, which come in turn, and all of which are used
pub record IsNumbering (sample values places : List ℕ) : Type 0 where
  pub different : AreDifferent values
  pub stand : ArePlaces values sample places
  pub turn : ComeInTurn places
  pub used : (k : ℕ) → k < length values → Contains places k
  pub short : length values ≤ length sample
