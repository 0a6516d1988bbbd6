use Rattle.std.proofs.Common.{◌≡◌, ◌++◌, map, take}
use Rattle.std.specs.List.{flat_map}
use Rattle.lois_picture.specs.EdgeView.{edge_of}
use Rattle.lois_picture.specs.GraphText.{edge_text}
use Rattle.lois_picture.proofs.texts.append_edges.Given as goal

abbrev pub invariant-loop-edge : goal.invariant-loop-edge
invariant-loop-edge l =
    l.text.items ≡ l.initial.text.items ++ flat_map (λ x. edge_text (map (λ z. z.items) l.labels) (edge_of x)) (take l.edge-index l.edge-items)
