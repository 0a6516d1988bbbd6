use Rattle.std.proofs.Common.{◌+◌, ◌*◌}
use Rattle.lois_base.specs.Data.{depth, terms_of, comps_of}
use Rattle.lois_base.specs.ListDepth.{depth_of_terms, depth_of_comps}
use Rattle.lois_base.specs.FormulaView.{view}
use Rattle.lois_base.specs.Tree.{tree}
use Rattle.lois_base.specs.Validity.{AdmitsParts, AdmitsItems}
use Rattle.lois_base.specs.Values.{SomePartDeeperAt, SomeMemberDeeperAt}
use Rattle.lois_relate.proofs.Loops.{AnySoFar}
use Rattle.lois_relate.proofs.Parts.{terms_from, comps_from}
use Rattle.lois_algebra.proofs.depth.+deepening.Given as goal

-- each call goes into a part of the term, or on to a function of a lower rank
abbrev pub decreases-deeper : goal.decreases-deeper
decreases-deeper l = 3 * depth (tree l.t.now)

abbrev pub decreases-some_part_deeper : goal.decreases-some_part_deeper
decreases-some_part_deeper l = 3 * depth_of_terms l.terms.now + 1

abbrev pub decreases-some_member_deeper : goal.decreases-some_member_deeper
decreases-some_member_deeper l = 3 * depth_of_comps l.comps.now + 2

abbrev pub decreases-one_deeper : goal.decreases-one_deeper
decreases-one_deeper l = 3 * depth (tree l.comp.now.item) + 1

abbrev pub invariant-some_part_deeper-loop-part : goal.invariant-some_part_deeper-loop-part
invariant-some_part_deeper-loop-part l =
    AnySoFar l.size (λ c. SomePartDeeperAt (terms_from l.part-items l.part-index) c l.limit) (λ c. SomePartDeeperAt (terms_of l.terms) c l.limit) (λ o. AdmitsParts o (terms_of l.terms)) (view l.found)

abbrev pub invariant-some_member_deeper-loop-comp : goal.invariant-some_member_deeper-loop-comp
invariant-some_member_deeper-loop-comp l =
    AnySoFar l.size (λ c. SomeMemberDeeperAt (comps_from l.comp-items l.comp-index) c l.limit) (λ c. SomeMemberDeeperAt (comps_of l.comps) c l.limit) (λ o. AdmitsItems o (comps_of l.comps)) (view l.found)
