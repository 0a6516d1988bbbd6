use Rattle.lois_base.specs.Data.{coll, comps_of}
use Rattle.lois_relate.proofs.Parts.{comps_from}
use Rattle.lois_minimise.proofs.ClassTerms.{ClassesSoFar}
use Rattle.lois_minimise.proofs.classing.with_classes.Given as goal

abbrev pub invariant-loop-comp : goal.invariant-loop-comp
invariant-loop-comp g l = ClassesSoFar l.size (comps_of l.nodes) (coll (comps_of l.alike)) (comps_from l.comp-items l.comp-index) (comps_of l.classes)
