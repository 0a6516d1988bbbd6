use Rattle.std.proofs.Common.{◌≡◌, length, drop, map}
use Rattle.lois_base.specs.Tree.{comp_of}
use Rattle.lois_terms.specs.Shapes.{item_shape}
use Rattle.lois_simplify.proofs.Pass.{UncoveredSoFar}
use Rattle.lois_simplify.proofs.covering.uncovered.Given as goal

abbrev pub invariant-loop-index : goal.invariant-loop-index
invariant-loop-index g l = record {
  count : length l.items.items ≡ l.index-end;
  so_far : UncoveredSoFar l.under l.size l.fn.comps l.kept (map comp_of (drop l.index l.items.items));
  kept_shapes : l.kept_shapes ≡ map item_shape l.kept;
  shapes : drop l.index (map item_shape l.fn.comps) ≡ map item_shape (map comp_of (drop l.index l.items.items));
  asked : g.D.Oracle.reaches l.fn.decider l.decider;
}
