use Rattle.lois_base.specs.Fits.{ConstraintFits}
use Rattle.lois_relate.proofs.Parts.{comps_from}
use Rattle.lois_automata.proofs.Tests.{ClashesSoFar}
use Rattle.lois_automata.proofs.conditions.where_function.Given as goal

abbrev pub invariant-loop-first : goal.invariant-loop-first
invariant-loop-first g l = ClashesSoFar l.size l.items (comps_from l.first-items l.first-index) l.found × ConstraintFits l.size l.found
