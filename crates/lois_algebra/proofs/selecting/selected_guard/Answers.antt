use Rattle.std.proofs.Common.{map, ap, ◌∙◌}
use Rattle.lois_terms.specs.Shapes.{item_shape}
use Rattle.lois_algebra.proofs.selecting.selected_guard.Goals as goal

pub guard_by_index-requires-clause-shapes : goal.guard_by_index-requires-clause-shapes
guard_by_index-requires-clause-shapes g c = c.in_ok-shapes.ensures ∙ ap (map item_shape) c.as_slice.ensures
