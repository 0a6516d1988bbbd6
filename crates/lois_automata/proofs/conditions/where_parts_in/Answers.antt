use Rattle.std.proofs.Common.{subst}
use Rattle.std.proofs.lemmas.Result.{IfOk-weaker}
use Rattle.lois_base.specs.Data.{coll, comps_of}
use Rattle.lois_base.specs.Tree.{tree}
use Rattle.lois_base.specs.Values.{point, IsIncluded}
use Rattle.lois_automata.specs.Projections.{ArePartsIn}
use Rattle.lois_automata.specs.Verdicts.{HoldsWhere}
use Rattle.lois_automata.proofs.Checked.{parts_in}
use Rattle.lois_automata.proofs.Tests.{where_as}
use Rattle.lois_automata.proofs.conditions.where_parts_in.Goals as goal

pub returns-clause-truth : goal.returns-clause-truth
returns-clause-truth g c =
    let n = c.args.size in
    let steps = comps_of c.args.steps.now in
    let whole = coll (comps_of c.args.whole.now) in
    let parts = tree c.in_ok-parts.parts in
    IfOk-weaker c.where_included.result (HoldsWhere n (λ d. IsIncluded (point parts d) (point (coll (comps_of c.in_ok-copy.field-0)) d))) _ (λ r h.
    where_as n (λ d. IsIncluded (point parts d) (point whole d)) (λ d. ArePartsIn c.args.shape (point (coll steps) d) (point whole d)) r (parts_in n steps c.args.shape parts whole (c.in_ok-parts.ensures.members n))
    (subst (λ z. HoldsWhere n (λ d. IsIncluded (point parts d) (point (coll (comps_of z)) d)) r) c.in_ok-copy.ensures h)) c.where_included.ensures.truth
