-- The text of censuses.
use Rattle.std.specs.Prelude.{ℕ, List, [], ◌++◌, length, codes}
use Rattle.std.specs.Fmt.{decimal}
use Rattle.std.specs.List.{flat_map}
use Rattle.lois_answers.specs.ResultsText.{lined}
use Rattle.lois_answers.specs.TermText.{term_text}
use Rattle.lois_answers.specs.TraceText.{choice_text}
use Rattle.lois_census.specs.CensusData.{CensusD}
use Rattle.lois_census.specs.OrbitData.{OrbitD}

-- a member among as many levels as its choice has numbers, and the choice
abbrev pub orbit_text : OrbitD → List ℕ
orbit_text o = lined (codes "orbit " ++ term_text [] (length o.sample) o.item) ++ choice_text o.sample

abbrev pub census_text : CensusD → List ℕ
census_text e =
    lined (codes "case " ++ decimal e.case) ++ lined (codes "orbits " ++ decimal (length e.orbits)) ++ flat_map orbit_text e.orbits

abbrev pub censuses_text : List CensusD → List ℕ
censuses_text es = flat_map census_text es
