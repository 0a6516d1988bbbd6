use Rattle.lois_base.specs.Data.{coll, comps_of}
use Rattle.lois_relate.proofs.Parts.{comps_from}
use Rattle.lois_algebra.proofs.Selections.{SelectedSoFar}
use Rattle.lois_algebra.proofs.selecting.selected.Given as goal

abbrev pub invariant-loop-comp : goal.invariant-loop-comp
invariant-loop-comp g l =
    SelectedSoFar l.size l.wanted (coll (comps_of l.others)) (comps_from l.comp-items l.comp-index) (comps_of l.comps) (comps_of l.kept)
