use Rattle.std.proofs.Common.{◌≤◌, ◌+◌, ◌*◌, length}
use Rattle.std.specs.Prelude.{codes}
use Rattle.lois_reader.specs.Reading.{begins}
use Rattle.lois_reader.specs.Ends.{term_end}
use Rattle.lois_reader.specs.TermValues.{parts_at, comps_at, comp_at, term_at}
use Rattle.lois_reader.proofs.Lists.{Lists}
use Rattle.lois_reader.proofs.terms.+terms.Given as goal

abbrev pub decreases-term_at : goal.decreases-term_at
decreases-term_at l = 6 * l.brackets

abbrev pub decreases-parts_at : goal.decreases-parts_at
decreases-parts_at l = 6 * l.brackets + 1

abbrev pub decreases-closed_parts_at : goal.decreases-closed_parts_at
decreases-closed_parts_at l = 6 * l.brackets + 2

abbrev pub decreases-tuple_at : goal.decreases-tuple_at
decreases-tuple_at l = 6 * l.brackets + 3

abbrev pub decreases-comp_at : goal.decreases-comp_at
decreases-comp_at l = 6 * l.brackets + 1

abbrev pub decreases-comps_at : goal.decreases-comps_at
decreases-comps_at l = 6 * l.brackets + 2

abbrev pub decreases-closed_comps_at : goal.decreases-closed_comps_at
decreases-closed_comps_at l = 6 * l.brackets + 3

abbrev pub decreases-set_at : goal.decreases-set_at
decreases-set_at l = 6 * l.brackets + 4

abbrev pub invariant-parts_at-loop-parts : goal.invariant-parts_at-loop-parts
invariant-parts_at-loop-parts l = record {
  parts : Lists (begins 44) (codes ", ") (term_at l.brackets l.scope l.levels) l.parts l.rest (parts_at (term_at l.brackets l.scope l.levels) l.bytes);
  shorter : length l.rest ≤ length l.bytes;
}

abbrev pub decreases-parts_at-loop-parts : goal.decreases-parts_at-loop-parts
decreases-parts_at-loop-parts l = length l.rest

abbrev pub invariant-comps_at-loop-comps : goal.invariant-comps_at-loop-comps
invariant-comps_at-loop-comps l = record {
  comps : Lists (begins 44) (codes ", ") (comp_at (term_end l.brackets) (term_at l.brackets l.scope) l.scope l.levels) l.comps l.rest (comps_at (comp_at (term_end l.brackets) (term_at l.brackets l.scope) l.scope l.levels) l.bytes);
  shorter : length l.rest ≤ length l.bytes;
}

abbrev pub decreases-comps_at-loop-comps : goal.decreases-comps_at-loop-comps
decreases-comps_at-loop-comps l = length l.rest
