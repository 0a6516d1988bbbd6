use Rattle.std.proofs.Common.{subst}
use Rattle.std.proofs.lemmas.Result.{IfOk-weaker}
use Rattle.lois_base.specs.Data.{coll, comps_of}
use Rattle.lois_base.specs.Values.{point, IsIncluded}
use Rattle.lois_automata.specs.Verdicts.{HoldsWhere}
use Rattle.lois_automata.proofs.conditions.where_inside.Goals as goal

pub returns-clause-truth : goal.returns-clause-truth
returns-clause-truth g c =
    let n = c.args.size in
    let a = c.in_ok-copy.field-0 in
    let b = c.in_ok-copy-2.field-0 in
    IfOk-weaker c.where_included.result (HoldsWhere n (λ d. IsIncluded (point (coll (comps_of a)) d) (point (coll (comps_of b)) d))) _ (λ r h.
    subst (λ z. HoldsWhere n (λ d. IsIncluded (point (coll (comps_of z)) d) (point (coll (comps_of c.args.others.now)) d)) r) c.in_ok-copy.ensures
    (subst (λ z. HoldsWhere n (λ d. IsIncluded (point (coll (comps_of a)) d) (point (coll (comps_of z)) d)) r) c.in_ok-copy-2.ensures h)) c.where_included.ensures.truth
