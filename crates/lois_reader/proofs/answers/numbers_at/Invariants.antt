use Rattle.std.proofs.Common.{◌≤◌, length}
use Rattle.lois_reader.specs.Reading.{begins}
use Rattle.lois_reader.specs.AnswerValues.{numbers_at, number_of_choice_at}
use Rattle.lois_reader.proofs.Lists.{Gathers}
use Rattle.lois_reader.proofs.answers.numbers_at.Given as goal

abbrev pub invariant-loop-rest : goal.invariant-loop-rest
invariant-loop-rest l = record {
  numbers : Gathers (begins 32) (number_of_choice_at) l.numbers l.rest (numbers_at l.bytes);
  shorter : length l.rest ≤ length l.bytes;
}

abbrev pub decreases-loop-rest : goal.decreases-loop-rest
decreases-loop-rest l = length l.rest
