use Rattle.std.proofs.Common.{◌≡◌, take}
use Rattle.lois_constraint.specs.Substitution.{put_cube}
use Rattle.lois_constraint.proofs.levels.substitute_cube.Given as goal

abbrev pub invariant-loop-lit : goal.invariant-loop-lit
invariant-loop-lit l = l.substituted ≡ put_cube l.level l.other (take l.lit-index l.lit-items)
