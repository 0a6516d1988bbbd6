use Rattle.std.proofs.Common.{◌≡◌, take}
use Rattle.lois_constraint.specs.Substitution.{put_constraint}
use Rattle.lois_constraint.proofs.levels.substitute.Given as goal

abbrev pub invariant-loop-cube : goal.invariant-loop-cube
invariant-loop-cube l = l.substituted ≡ put_constraint l.level l.other (take l.cube-index l.cube-items)
