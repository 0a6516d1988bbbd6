-- One case more of a census.
use Rattle.std.specs.Prelude.{ℕ, Bool, List, [], ◌∷◌, ◌++◌}
use Rattle.lois_census.specs.CensusData.{CensusD}
use Rattle.lois_census.specs.Censuses.{NumberedD, AreCensusesOf}

-- one more case: where its constraint holds its census is put behind the others
abbrev pub IsCensusAdded : Bool → List ℕ → NumberedD → List CensusD → List CensusD → Type 0
IsCensusAdded ordered name k before after =
    (ks : List NumberedD) → AreCensusesOf ordered name ks before → AreCensusesOf ordered name (ks ++ k ∷ []) after
