use Rattle.std.proofs.Common.{◌≡◌, false, take}
use Rattle.std.specs.List.{list_any}
use Rattle.lois_constraint.specs.Order.{sets_apart}
use Rattle.lois_constraint.specs.LevelOrders.{low_at_most}
use Rattle.lois_constraint.proofs.low_levels.are_apart.Given as goal

abbrev pub invariant-loop-lit : goal.invariant-loop-lit
invariant-loop-lit l = record {
  none : list_any (sets_apart (low_at_most l.word) l.a l.b) (take l.lit-index l.cube) ≡ false;
}
