-- What an edge says, as data.
use Rattle.lois_census.specs.OrbitView.{orbit_of}
use Rattle.lois_picture.specs.GraphData.{EdgeD}
use Rattle.lois_picture.specs.declared.graphs.Edge.{Edge}

abbrev pub edge_of : Edge → EdgeD
edge_of e = record { orbit = orbit_of e.orbit; from = e.from; to = e.to }
