use Rattle.std.proofs.Common.{◌≤◌, suc, length}
use Rattle.lois_reader.specs.Ends.{binders_end}
use Rattle.lois_reader.proofs.Loops.{Binders}
use Rattle.lois_reader.proofs.term_ends.binders_end.Given as goal

abbrev pub invariant-loop-rest : goal.invariant-loop-rest
invariant-loop-rest l = record {
  end : Binders l.rest (binders_end (suc (length l.bytes)) l.bytes);
  shorter : length l.rest ≤ length l.bytes;
}

abbrev pub decreases-loop-rest : goal.decreases-loop-rest
decreases-loop-rest l = length l.rest
