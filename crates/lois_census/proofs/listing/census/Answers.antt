use Rattle.std.proofs.Common.{◌≡◌, Bool, [], ap, sym, subst}
use Rattle.std.proofs.lemmas.Result.{IfOk-weaker}
use Rattle.std.specs.List.{All}
use Rattle.lois_base.specs.Data.{coll, comps_of}
use Rattle.lois_base.specs.Fits.{Fits}
use Rattle.lois_base.specs.Tree.{tree}
use Rattle.lois_base.specs.Validity.{AdmitsTerm, HasBoundedWidths, IsStrictTerm}
use Rattle.lois_base.specs.Values.{PointValue, point, IsMember, IsIn}
use Rattle.lois_census.specs.Left.{IsTakenFromSome, IsCoveredByOrbits}
use Rattle.lois_census.specs.Orbits.{value_of, IsInListedOrbit, FitsSample, AreTakenInOrder, AreTakenFrom}
use Rattle.lois_census.proofs.TheCensus.{all_fit, all_members, each_listed, all_admitted, all_wide, all_strict}
use Rattle.lois_census.proofs.listing.census.Goals as goal

pub returns-clause-levels : goal.returns-clause-levels
returns-clause-levels g c =
    let ks = c.in-Coll.comps in
    let set : tree c.args.set.now ≡ coll (comps_of ks) = ap tree c.in-Coll.is in
    IfOk-weaker c.all_orbits.result (All (IsTakenFromSome g.T.Structure.ordered ks)) (All FitsSample) (λ r h. all_fit g.T.Structure.ordered ks (subst (Fits 0) set c.requires.over.levels) r h) c.all_orbits.ensures.taken

pub returns-clause-members : goal.returns-clause-members
returns-clause-members g c =
    let ks = c.in-Coll.comps in
    let set : tree c.args.set.now ≡ coll (comps_of ks) = ap tree c.in-Coll.is in
    IfOk-weaker c.all_orbits.result (All (IsTakenFromSome g.T.Structure.ordered ks)) (All (λ o. IsMember (value_of o) (point (tree c.args.set.now) []))) (λ r h. subst (λ t. All (λ o. IsMember (value_of o) (point t [])) r) (sym set) (all_members g.T.Structure.ordered ks r h)) c.all_orbits.ensures.taken

pub returns-clause-each : goal.returns-clause-each
returns-clause-each g c =
    let ks = c.in-Coll.comps in
    let set : tree c.args.set.now ≡ coll (comps_of ks) = ap tree c.in-Coll.is in
    IfOk-weaker c.all_orbits.result (λ r. All (IsCoveredByOrbits g.T.Structure.ordered r) ks) (λ r. (v : PointValue) → IsIn v (point (tree c.args.set.now) []) → IsInListedOrbit g.T.Structure.ordered r v) (λ r h v i. each_listed g.T.Structure.ordered r ks h v (subst (λ t. IsIn v (point t [])) set i)) c.all_orbits.ensures.covered

pub returns-clause-taken : goal.returns-clause-taken
returns-clause-taken g c =
    let ks = c.in-Coll.comps in
    let set : tree c.args.set.now ≡ coll (comps_of ks) = ap tree c.in-Coll.is in
    IfOk-weaker c.all_orbits.result (AreTakenInOrder g.T.Structure.ordered (comps_of ks)) (AreTakenFrom g.T.Structure.ordered (tree c.args.set.now)) (λ r h. subst (λ t. AreTakenFrom g.T.Structure.ordered t r) (sym set) h) c.all_orbits.ensures.in_order

pub returns-clause-operators : goal.returns-clause-operators
returns-clause-operators g c =
    let ks = c.in-Coll.comps in
    let set : tree c.args.set.now ≡ coll (comps_of ks) = ap tree c.in-Coll.is in
    IfOk-weaker c.all_orbits.result (All (IsTakenFromSome g.T.Structure.ordered ks)) (λ r. (o : Bool) → AdmitsTerm o (tree c.args.set.now) → All (λ k. AdmitsTerm o k.item) r) (λ r h o a. all_admitted g.T.Structure.ordered o ks (subst (AdmitsTerm o) set a) r h) c.all_orbits.ensures.taken

pub returns-clause-widths : goal.returns-clause-widths
returns-clause-widths g c =
    let ks = c.in-Coll.comps in
    let set : tree c.args.set.now ≡ coll (comps_of ks) = ap tree c.in-Coll.is in
    IfOk-weaker c.all_orbits.result (All (IsTakenFromSome g.T.Structure.ordered ks)) (λ r. HasBoundedWidths (tree c.args.set.now) → All (λ k. HasBoundedWidths k.item) r) (λ r h w. all_wide g.T.Structure.ordered ks (subst HasBoundedWidths set w) r h) c.all_orbits.ensures.taken

pub returns-clause-strict : goal.returns-clause-strict
returns-clause-strict g c =
    let ks = c.in-Coll.comps in
    let set : tree c.args.set.now ≡ coll (comps_of ks) = ap tree c.in-Coll.is in
    IfOk-weaker c.all_orbits.result (All (IsTakenFromSome g.T.Structure.ordered ks)) (λ r. IsStrictTerm (tree c.args.set.now) → All (λ k. IsStrictTerm k.item) r) (λ r h w. all_strict g.T.Structure.ordered ks (subst IsStrictTerm set w) r h) c.all_orbits.ensures.taken
