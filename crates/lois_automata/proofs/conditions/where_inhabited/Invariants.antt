use Rattle.std.proofs.Common.{Bool}
use Rattle.lois_base.specs.Data.{comps_of}
use Rattle.lois_base.specs.Fits.{ConstraintFits}
use Rattle.lois_base.specs.Validity.{AdmitsConstraint, AdmitsItems}
use Rattle.lois_relate.proofs.Parts.{comps_from}
use Rattle.lois_automata.proofs.Tests.{SomeSoFar}
use Rattle.lois_automata.proofs.conditions.where_inhabited.Given as goal

abbrev pub invariant-loop-comp : goal.invariant-loop-comp
invariant-loop-comp g l =
    SomeSoFar l.size l.items (comps_from l.comp-items l.comp-index) l.found × ConstraintFits l.size l.found × ((o : Bool) → AdmitsItems o (comps_of l.items) → AdmitsConstraint o l.found)
