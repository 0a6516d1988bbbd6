-- The census of a case as contracts see it.
use Rattle.std.specs.Prelude.{List, ℕ}
use Rattle.lois_census.specs.OrbitData.{OrbitD}

-- the number of a case, and orbits
pub record CensusD : Type 0 where
  pub case : ℕ
  pub orbits : List OrbitD
