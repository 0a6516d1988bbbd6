use Rattle.std.proofs.Common.{◌≡◌, take}
use Rattle.lois_base.specs.Shift.{shift_constraint}
use Rattle.lois_constraint.proofs.levels.shift.Given as goal

abbrev pub invariant-loop-cube : goal.invariant-loop-cube
invariant-loop-cube l = l.shifted ≡ shift_constraint l.from l.by (take l.cube-index l.cube-items)
