use Rattle.std.proofs.Common.{◌≡◌, take}
use Rattle.lois_base.specs.Shift.{shift_cube}
use Rattle.lois_constraint.proofs.levels.shifted_cube.Given as goal

abbrev pub invariant-loop-lit : goal.invariant-loop-lit
invariant-loop-lit l = l.shifted ≡ shift_cube l.from l.by (take l.lit-index l.lit-items)
