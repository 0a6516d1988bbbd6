use Rattle.std.proofs.Common.{◌≤◌, length}
use Rattle.std.specs.Prelude.{codes}
use Rattle.lois_reader.specs.Values.{literals_at, literal_at, follows}
use Rattle.lois_reader.proofs.Lists.{Lists}
use Rattle.lois_reader.proofs.constraints.literals_at.Given as goal

abbrev pub invariant-loop-cube : goal.invariant-loop-cube
invariant-loop-cube l = record {
  cube : Lists (follows 97) (codes " and ") (literal_at l.scope l.levels) l.cube l.rest (literals_at l.scope l.levels l.bytes);
  shorter : length l.rest ≤ length l.bytes;
}

abbrev pub decreases-loop-cube : goal.decreases-loop-cube
decreases-loop-cube l = length l.rest
