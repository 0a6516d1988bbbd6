use Rattle.std.proofs.Common.{◌≡◌, List, map}
use Rattle.lois_base.specs.Data.{CompD, coll, comps_of}
use Rattle.lois_base.specs.Tree.{comp_of}
use Rattle.lois_terms.specs.Shapes.{item_shape}
use Rattle.lois_relate.proofs.Parts.{comps_from}
use Rattle.lois_minimise.proofs.Matching.{ClassesMet}
use Rattle.lois_minimise.proofs.transitions.add_transitions.Given as goal

abbrev pub invariant-loop-class : goal.invariant-loop-class
invariant-loop-class l = (steps : List CompD) → l.shapes ≡ map item_shape steps → ClassesMet l.size (coll (comps_of steps)) (comp_of l.read) l.classes (comps_of l.initial.made) (comps_from l.class-items l.class-index) (comps_of l.made)
