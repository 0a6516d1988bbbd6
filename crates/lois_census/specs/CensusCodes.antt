-- Orbits and censuses as numbers.
use Rattle.std.specs.Prelude.{List, ℕ}
use Rattle.std.proofs.Common.{refl}
use Rattle.std.specs.Coded.{Coded, code_by, coded_ℕ, coded_list, coded×}
use Rattle.lois_census.specs.OrbitData.{OrbitD}
use Rattle.lois_census.specs.CensusData.{CensusD}
use Rattle.lois_base.specs.Codes.{term_code}
use Rattle.lois_base.specs.Data.{TermD}

abbrev pub orbit_code : Coded OrbitD
orbit_code =
    code_by (TermD × List ℕ) (coded× term_code (coded_list coded_ℕ)) (λ o. (o.item, o.sample)) (λ p. record { item = p.0; sample = p.1 }) (λ _. refl)

abbrev pub orbits_code : Coded (List OrbitD)
orbits_code = coded_list orbit_code

abbrev pub census_code : Coded CensusD
census_code =
    code_by (ℕ × List OrbitD) (coded× coded_ℕ orbits_code) (λ e. (e.case, e.orbits)) (λ p. record { case = p.0; orbits = p.1 }) (λ _. refl)

abbrev pub censuses_code : Coded (List CensusD)
censuses_code = coded_list census_code
