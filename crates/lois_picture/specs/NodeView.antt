-- What a node says, as data.
use Rattle.lois_census.specs.OrbitView.{orbit_of}
use Rattle.lois_picture.specs.GraphData.{NodeD}
use Rattle.lois_picture.specs.declared.graphs.Node.{Node}

abbrev pub node_of : Node → NodeD
node_of v = record { orbit = orbit_of v.orbit; initial = v.initial; accepting = v.accepting }
