use Rattle.std.proofs.Common.{◌≤◌, length}
use Rattle.lois_reader.specs.Reading.{begins}
use Rattle.lois_reader.specs.AnswerValues.{cases_at, case_at}
use Rattle.lois_reader.proofs.Lists.{Gathers}
use Rattle.lois_reader.proofs.answers.cases_at.Given as goal

abbrev pub invariant-loop-alloc : goal.invariant-loop-alloc
invariant-loop-alloc l = record {
  cases : Gathers (begins 99) (case_at l.scope) l.cases l.rest (cases_at l.scope l.bytes);
  shorter : length l.rest ≤ length l.bytes;
}

abbrev pub decreases-loop-alloc : goal.decreases-loop-alloc
decreases-loop-alloc l = length l.rest
