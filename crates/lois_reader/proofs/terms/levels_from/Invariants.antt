use Rattle.std.proofs.Common.{◌≤◌, suc, length}
use Rattle.lois_reader.specs.TermValues.{levels_from}
use Rattle.lois_reader.proofs.Lists.{LevelsFollow}
use Rattle.lois_reader.proofs.terms.levels_from.Given as goal

abbrev pub invariant-loop-rest : goal.invariant-loop-rest
invariant-loop-rest l = record {
  end : LevelsFollow l.level l.rest (levels_from (suc (length l.bytes)) l.first l.bytes);
  shorter : length l.rest ≤ length l.bytes;
}

abbrev pub decreases-loop-rest : goal.decreases-loop-rest
decreases-loop-rest l = length l.rest
