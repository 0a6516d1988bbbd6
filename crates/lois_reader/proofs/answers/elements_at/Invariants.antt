use Rattle.std.proofs.Common.{◌≤◌, length}
use Rattle.lois_reader.specs.Reading.{begins}
use Rattle.lois_reader.specs.AnswerValues.{elements_at, element_at}
use Rattle.lois_reader.proofs.Lists.{Gathers}
use Rattle.lois_reader.proofs.answers.elements_at.Given as goal

abbrev pub invariant-loop-alloc : goal.invariant-loop-alloc
invariant-loop-alloc l = record {
  elements : Gathers (begins 102) (element_at l.scope l.levels) l.elements l.rest (elements_at l.scope l.levels l.bytes);
  shorter : length l.rest ≤ length l.bytes;
}

abbrev pub decreases-loop-alloc : goal.decreases-loop-alloc
decreases-loop-alloc l = length l.rest
