-- What an orbit says, as data.
use Rattle.lois_base.specs.Tree.{tree}
use Rattle.lois_census.specs.OrbitData.{OrbitD}
use Rattle.lois_census.specs.declared.orbits.Orbit.{Orbit}

abbrev pub orbit_of : Orbit → OrbitD
orbit_of o = record { item = tree o.item; sample = o.sample }
