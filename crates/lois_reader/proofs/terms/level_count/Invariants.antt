use Rattle.std.proofs.Common.{◌≤◌, ◌+◌, suc, length}
use Rattle.lois_reader.specs.TermValues.{level_count}
use Rattle.lois_reader.proofs.Lists.{LevelsCounted}
use Rattle.lois_reader.proofs.terms.level_count.Given as goal

abbrev pub invariant-loop-rest : goal.invariant-loop-rest
invariant-loop-rest l = record {
  count : LevelsCounted l.count l.rest (level_count (suc (length l.bytes)) l.bytes);
  room : l.count + length l.rest ≤ length l.bytes;
}

abbrev pub decreases-loop-rest : goal.decreases-loop-rest
decreases-loop-rest l = length l.rest
