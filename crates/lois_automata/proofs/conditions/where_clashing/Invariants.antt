use Rattle.std.proofs.Common.{drop, map}
use Rattle.lois_base.specs.Fits.{ConstraintFits}
use Rattle.lois_base.specs.Tree.{comp_of}
use Rattle.lois_relate.specs.Candidates.{comps_at}
use Rattle.lois_automata.proofs.Tests.{ClashSoFar}
use Rattle.lois_automata.proofs.conditions.where_clashing.Given as goal

abbrev pub invariant-loop-place : goal.invariant-loop-place
invariant-loop-place g l = ClashSoFar l.size (comp_of l.first) (comps_at (map comp_of l.comps) l.place-items) (comps_at (map comp_of l.comps) (drop l.place-index l.place-items)) l.found × ConstraintFits l.size l.found
