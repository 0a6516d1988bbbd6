use Rattle.std.proofs.Common.{◌≤◌, ◌+◌, ◌*◌, length}
use Rattle.lois_reader.specs.Ends.{term_end, more_parts_end, more_comps_end}
use Rattle.lois_reader.proofs.Loops.{Parts, Comps}
use Rattle.lois_reader.proofs.term_ends.+term_ends.Given as goal

abbrev pub decreases-more_parts_end : goal.decreases-more_parts_end
decreases-more_parts_end l = 5 * l.brackets + 1

abbrev pub decreases-tuple_end : goal.decreases-tuple_end
decreases-tuple_end l = 5 * l.brackets + 2

abbrev pub decreases-comp_end : goal.decreases-comp_end
decreases-comp_end l = 5 * l.brackets + 1

abbrev pub decreases-more_comps_end : goal.decreases-more_comps_end
decreases-more_comps_end l = 5 * l.brackets + 2

abbrev pub decreases-items_end : goal.decreases-items_end
decreases-items_end l = 5 * l.brackets + 3

abbrev pub decreases-set_end : goal.decreases-set_end
decreases-set_end l = 5 * l.brackets + 4

abbrev pub decreases-term_end : goal.decreases-term_end
decreases-term_end l = 5 * l.brackets

abbrev pub invariant-more_parts_end-loop-rest : goal.invariant-more_parts_end-loop-rest
invariant-more_parts_end-loop-rest l = record {
  end : Parts l.brackets l.rest (more_parts_end (term_end l.brackets) l.bytes);
  shorter : length l.rest ≤ length l.bytes;
}

abbrev pub decreases-more_parts_end-loop-rest : goal.decreases-more_parts_end-loop-rest
decreases-more_parts_end-loop-rest l = length l.rest

abbrev pub invariant-more_comps_end-loop-rest : goal.invariant-more_comps_end-loop-rest
invariant-more_comps_end-loop-rest l = record {
  end : Comps l.brackets l.rest (more_comps_end (term_end l.brackets) l.bytes);
  shorter : length l.rest ≤ length l.bytes;
}

abbrev pub decreases-more_comps_end-loop-rest : goal.decreases-more_comps_end-loop-rest
decreases-more_comps_end-loop-rest l = length l.rest
