use Rattle.std.proofs.Common.{◌<◌, length}
use Rattle.lois_reader.specs.AnswerEnds.{cases_end}
use Rattle.lois_reader.proofs.Loops.{Entries}
use Rattle.lois_reader.proofs.answer_ends.cases_end.Given as goal

abbrev pub invariant-loop-goes_on : goal.invariant-loop-goes_on
invariant-loop-goes_on l = record {
  end : Entries l.goes_on l.rest (cases_end l.bytes);
  shorter : length l.rest < length l.bytes;
}

abbrev pub decreases-loop-goes_on : goal.decreases-loop-goes_on
decreases-loop-goes_on l = length l.rest
