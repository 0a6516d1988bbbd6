use Rattle.std.proofs.Common.{◌≤◌, length}
use Rattle.lois_reader.specs.Ends.{constraint_end}
use Rattle.lois_reader.proofs.Loops.{Pieces}
use Rattle.lois_reader.proofs.constraint_ends.constraint_end.Given as goal

abbrev pub invariant-loop-found : goal.invariant-loop-found
invariant-loop-found l = record {
  end : Pieces l.joint l.rest (constraint_end l.bytes);
  shorter : length l.rest ≤ length l.bytes;
}

abbrev pub decreases-loop-found : goal.decreases-loop-found
decreases-loop-found l = length l.rest
