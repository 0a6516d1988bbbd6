use Rattle.std.proofs.Common.{drop}
use Rattle.lois_base.specs.Data.{comps_of}
use Rattle.lois_base.specs.Tree.{tree}
use Rattle.lois_base.specs.Validity.{AdmitsTerm, AdmitsItems}
use Rattle.lois_relate.specs.Candidates.{comps_at}
use Rattle.lois_minimise.proofs.Ties.{FoundSoFar}
use Rattle.lois_minimise.proofs.indexed.indexed_membership.Given as goal

abbrev pub invariant-loop-place : goal.invariant-loop-place
invariant-loop-place g l =
    FoundSoFar l.size l.by (tree l.item) (λ o. AdmitsTerm o (tree l.item) × AdmitsItems o (comps_of l.set)) (comps_at l.set (drop l.place-index l.place-items)) (comps_at l.set l.place-items) l.found
