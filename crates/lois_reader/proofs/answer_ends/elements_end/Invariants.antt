use Rattle.std.proofs.Common.{◌≤◌, length}
use Rattle.lois_reader.specs.AnswerEnds.{elements_end}
use Rattle.lois_reader.proofs.Loops.{Elements}
use Rattle.lois_reader.proofs.answer_ends.elements_end.Given as goal

abbrev pub invariant-loop-rest : goal.invariant-loop-rest
invariant-loop-rest l = record {
  end : Elements l.rest (elements_end l.bytes);
  shorter : length l.rest ≤ length l.bytes;
}

abbrev pub decreases-loop-rest : goal.decreases-loop-rest
decreases-loop-rest l = length l.rest
