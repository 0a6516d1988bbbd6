use Rattle.std.proofs.Common.{map}
use Rattle.lois_base.proofs.Viewed.{item_has}
use Rattle.lois_constraint.proofs.Shifting.{All-of_map}
use Rattle.lois_census.specs.Orbits.{FitsSample}
use Rattle.lois_printer.proofs.Written.{piece_is_written, pieces_are_written}
use Rattle.lois_picture.specs.EdgeView.{edge_of}
use Rattle.lois_picture.specs.GraphText.{edge_text}
use Rattle.lois_picture.proofs.texts.append_edges.Goals as goal

pub append_edge-requires : goal.append_edge-requires
append_edge-requires c =
    item_has edge_of (λ e. FitsSample e.orbit) c.as_slice-edge-items.result.now c.args.edges.now c.loop-edge.edge-index c.edge-item.result c.as_slice-edge-items.ensures.items c.loop-edge-test.true c.edge-item.is (All-of_map FitsSample (λ e. e.orbit) c.args.edges.now c.requires)

pub loop-edge-preserved : goal.loop-edge-preserved
loop-edge-preserved c =
    piece_is_written (λ x. edge_text (map (λ z. z.items) c.args.labels.now) (edge_of x)) _ _ _ _ _ _ _ c.loop-edge-test.true c.edge-item.is c.loop-edge.invariant c.in_ok-append_edge.ensures

pub returns : goal.returns
returns c =
    pieces_are_written (edge_text (map (λ z. z.items) c.args.labels.now)) edge_of _ _ _ _ _ c.as_slice-edge-items.ensures.items c.loop-edge-test.false c.loop-edge.invariant
