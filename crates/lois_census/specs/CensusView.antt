-- What the census of a case says, as data.
use Rattle.lois_census.specs.CensusData.{CensusD}
use Rattle.lois_census.specs.declared.counting.Census.{Census}

abbrev pub entry_of : Census → CensusD
entry_of e = record { case = e.case; orbits = e.orbits }
