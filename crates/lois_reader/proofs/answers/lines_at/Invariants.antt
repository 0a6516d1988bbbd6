use Rattle.std.proofs.Common.{◌≤◌, length}
use Rattle.lois_reader.specs.AnswerValues.{lines_at, line_at, line_follows}
use Rattle.lois_reader.proofs.Lists.{Gathers}
use Rattle.lois_reader.proofs.answers.lines_at.Given as goal

abbrev pub invariant-loop-alloc : goal.invariant-loop-alloc
invariant-loop-alloc l = record {
  lines : Gathers line_follows (line_at l.scope l.levels) l.lines l.rest (lines_at l.scope l.levels l.bytes);
  shorter : length l.rest ≤ length l.bytes;
}

abbrev pub decreases-loop-alloc : goal.decreases-loop-alloc
decreases-loop-alloc l = length l.rest
