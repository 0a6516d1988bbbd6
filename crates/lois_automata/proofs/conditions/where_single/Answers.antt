use Rattle.std.proofs.Common.{ap, subst}
use Rattle.std.proofs.lemmas.Result.{IfOk-weaker}
use Rattle.lois_base.specs.Data.{coll, comps_of}
use Rattle.lois_base.specs.Tree.{tree}
use Rattle.lois_base.specs.Values.{point}
use Rattle.lois_automata.specs.Built.{ArePairs}
use Rattle.lois_automata.specs.Projections.{IsFunction, HasOneAtMost}
use Rattle.lois_automata.specs.Verdicts.{HoldsWhere}
use Rattle.lois_automata.proofs.Checked.{one_at_most}
use Rattle.lois_automata.proofs.Tests.{where_as}
use Rattle.lois_automata.proofs.conditions.where_single.Goals as goal

pub returns-clause-truth : goal.returns-clause-truth
returns-clause-truth g c =
    let n = c.args.size in
    let items = comps_of c.args.items.now in
    let squared = coll (comps_of c.in-Coll.squared) in
    let are : ArePairs n (coll items) (coll items) squared = subst (λ z. ArePairs n (coll items) (coll items) z) (ap tree c.in-Coll.is) c.in_ok-squared.ensures.members in
    IfOk-weaker c.where_function.result (HoldsWhere n (λ d. IsFunction (point squared d))) _ (λ r h.
    where_as n (λ d. IsFunction (point squared d)) (λ d. HasOneAtMost (point (coll items) d)) r (one_at_most n items squared are) h) c.where_function.ensures.truth
