use Rattle.std.proofs.Common.{◌≡◌, ◌++◌, map, take}
use Rattle.lois_picture.specs.GraphText.{node_label, nodes_text}
use Rattle.lois_picture.specs.NodeView.{node_of}
use Rattle.lois_picture.proofs.texts.append_nodes.Given as goal

abbrev pub invariant-loop-index : goal.invariant-loop-index
invariant-loop-index l = record {
  text : l.text.items ≡ l.initial.text.items ++ nodes_text 1 (map node_of (take l.index l.node-items));
  labels : map (λ z. z.items) l.labels.items ≡ map node_label (map node_of (take l.index l.node-items));
}
