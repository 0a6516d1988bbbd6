use Rattle.lois_base.specs.Data.{comps_of}
use Rattle.lois_relate.proofs.Parts.{comps_from}
use Rattle.lois_algebra.proofs.GatheredMembers.{GatheredSoFar}
use Rattle.lois_algebra.proofs.gathering.collected.Given as goal

abbrev pub invariant-loop-comp : goal.invariant-loop-comp
invariant-loop-comp l =
    GatheredSoFar l.size (comps_from l.comp-items l.comp-index) (comps_of l.comps) (comps_of l.gathered)
