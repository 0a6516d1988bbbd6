use Rattle.std.proofs.Common.{◌≤◌, length}
use Rattle.std.specs.Prelude.{codes}
use Rattle.lois_reader.specs.Reading.{begins}
use Rattle.lois_reader.specs.Values.{cubes_at, cube_at}
use Rattle.lois_reader.proofs.Lists.{Lists}
use Rattle.lois_reader.proofs.constraints.cubes_at.Given as goal

abbrev pub invariant-loop-constraint : goal.invariant-loop-constraint
invariant-loop-constraint l = record {
  constraint : Lists (begins 32) (codes " or ") (cube_at l.scope l.levels) l.constraint l.rest (cubes_at l.scope l.levels l.bytes);
  shorter : length l.rest ≤ length l.bytes;
}

abbrev pub decreases-loop-constraint : goal.decreases-loop-constraint
decreases-loop-constraint l = length l.rest
