use Rattle.std.proofs.Common.{subst}
use Rattle.std.proofs.lemmas.Result.{IfOk-weaker}
use Rattle.lois_base.specs.Data.{coll, comps_of}
use Rattle.lois_base.specs.Tree.{tree}
use Rattle.lois_algebra.specs.Sets.{IsIntersection}
use Rattle.lois_automata.proofs.operations.in_both.Goals as goal

pub returns-clause-members : goal.returns-clause-members
returns-clause-members g c =
    let n = c.args.size in
    let a = c.in_ok-copy.field-0 in
    let b = c.in_ok-copy-2.field-0 in
    IfOk-weaker c.inter.result (λ r. IsIntersection n (coll (comps_of a)) (coll (comps_of b)) (tree r)) _ (λ r h.
    subst (λ z. IsIntersection n (coll (comps_of z)) (coll (comps_of c.args.other.now)) (tree r)) c.in_ok-copy.ensures
    (subst (λ z. IsIntersection n (coll (comps_of a)) (coll (comps_of z)) (tree r)) c.in_ok-copy-2.ensures h)) c.inter.ensures.members
