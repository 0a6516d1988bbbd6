use Rattle.lois_base.specs.Data.{comps_of}
use Rattle.lois_relate.proofs.Parts.{comps_from}
use Rattle.lois_algebra.proofs.GatheredMembers.{ItemsSoFar}
use Rattle.lois_algebra.proofs.gathering.gather_items.Given as goal

abbrev pub invariant-loop-inner : goal.invariant-loop-inner
invariant-loop-inner l =
    ItemsSoFar l.size l.comp.binders l.comp.guard (comps_from l.inner-items l.inner-index) (comps_of l.items) (comps_of l.initial.gathered) (comps_of l.gathered)
