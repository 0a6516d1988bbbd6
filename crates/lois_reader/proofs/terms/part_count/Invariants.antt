use Rattle.std.proofs.Common.{◌≤◌, ◌+◌, suc, length}
use Rattle.lois_reader.specs.Ends.{term_end}
use Rattle.lois_reader.specs.TermValues.{part_count}
use Rattle.lois_reader.proofs.Lists.{PartsCounted}
use Rattle.lois_reader.proofs.terms.part_count.Given as goal

abbrev pub invariant-loop-rest : goal.invariant-loop-rest
invariant-loop-rest l = record {
  count : PartsCounted l.brackets l.count l.rest (part_count (term_end l.brackets) (suc (length l.bytes)) l.bytes);
  room : l.count + length l.rest ≤ length l.bytes;
}

abbrev pub decreases-loop-rest : goal.decreases-loop-rest
decreases-loop-rest l = length l.rest
