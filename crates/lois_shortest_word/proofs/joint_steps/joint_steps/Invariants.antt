use Rattle.lois_base.specs.Data.{coll, comps_of, no_comps}
use Rattle.lois_base.specs.Fits.{ItemsFit}
use Rattle.lois_base.specs.Validity.{AdmitsItems, ItemsHaveBoundedWidths}
use Rattle.lois_base.specs.Values.{point}
use Rattle.lois_relate.proofs.Parts.{comps_from}
use Rattle.lois_shortest_word.specs.Pairs.{IsJointStep}
use Rattle.lois_shortest_word.proofs.Each.{EachSoFar}
use Rattle.lois_shortest_word.proofs.joint_steps.joint_steps.Given as goal

abbrev pub invariant-loop-comp : goal.invariant-loop-comp
invariant-loop-comp g l = EachSoFar (λ c. IsJointStep (point (coll (comps_of l.one)) c) (point (coll (comps_of l.other)) c)) l.size l.pairs (ItemsFit l.size (comps_of l.pairs)) (λ o. AdmitsItems o (comps_of l.pairs) × (AdmitsItems o (comps_of l.one) × AdmitsItems o (comps_of l.other))) (ItemsHaveBoundedWidths (comps_of l.one) × ItemsHaveBoundedWidths (comps_of l.other)) no_comps (comps_from l.comp-items l.comp-index) (comps_of l.made)
