use Rattle.std.proofs.Common.{◌≤◌, suc, [], length}
use Rattle.lois_reader.specs.AnswerValues.{names_at}
use Rattle.lois_reader.proofs.Lists.{NamesFollow}
use Rattle.lois_reader.proofs.answers.names_at.Given as goal

abbrev pub invariant-loop-alloc : goal.invariant-loop-alloc
invariant-loop-alloc l = record {
  names : NamesFollow l.names l.rest (names_at (suc (length l.bytes)) [] l.bytes);
  shorter : length l.rest ≤ length l.bytes;
}

abbrev pub decreases-loop-alloc : goal.decreases-loop-alloc
decreases-loop-alloc l = length l.rest
