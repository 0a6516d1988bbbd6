use Rattle.std.proofs.Common.{◌≡◌, map, take}
use Rattle.lois_picture.specs.Drawing.{shapes_of}
use Rattle.lois_picture.specs.NodeView.{node_of}
use Rattle.lois_picture.proofs.linking.index_shapes.Given as goal

abbrev pub invariant-loop-node : goal.invariant-loop-node
invariant-loop-node l = l.shapes ≡ shapes_of (map node_of (take l.node-index l.node-items))
