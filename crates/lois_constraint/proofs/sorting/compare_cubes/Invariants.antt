use Rattle.std.proofs.Common.{◌≡◌, ◌≤◌, length, drop}
use Rattle.lois_constraint.specs.Normalised.{cube_before}
use Rattle.lois_constraint.proofs.sorting.compare_cubes.Given as goal

abbrev pub invariant-loop-index : goal.invariant-loop-index
invariant-loop-index l = record {
  within : l.index ≤ length l.b;
  same : cube_before l.a l.b ≡ cube_before (drop l.index l.a) (drop l.index l.b);
}
