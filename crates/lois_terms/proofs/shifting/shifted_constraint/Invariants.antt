use Rattle.std.proofs.Common.{◌≡◌, ◌+◌, ◌^◌, ◌≤◌, take, drop, map}
use Rattle.lois_base.specs.Shift.{shift_cube, top_of_cubes}
use Rattle.lois_terms.proofs.shifting.shifted_constraint.Given as goal

abbrev pub invariant-loop-cube : goal.invariant-loop-cube
invariant-loop-cube l =
    (l.shifted ≡ map (shift_cube l.from l.by) (take l.cube-index l.cube-items)) × (top_of_cubes (drop l.cube-index l.cube-items) + l.by ≤ 2 ^ 64)
