use Rattle.std.proofs.Common.{ap, subst}
use Rattle.lois_base.specs.Data.{coll, comps_of}
use Rattle.lois_base.specs.Tree.{tree}
use Rattle.lois_algebra.specs.Sets.{IsUnion}
use Rattle.lois_equal.proofs.completion.append_comps.Goals as goal

pub returns-clause-members : goal.returns-clause-members
returns-clause-members c =
    let one = c.in_ok-copy.field-0 in
    let other = c.in_ok-copy-2.field-0 in
    let all = coll (comps_of c.in-Coll.all) in
    let whole : IsUnion (coll (comps_of one)) (coll (comps_of other)) all = subst (λ z. IsUnion (coll (comps_of one)) (coll (comps_of other)) z) (ap tree c.in-Coll.is) c.in_ok-all.ensures.members in
    subst (λ z. IsUnion (coll (comps_of z)) (coll (comps_of c.args.other.now)) all) c.in_ok-copy.ensures (subst (λ z. IsUnion (coll (comps_of one)) (coll (comps_of z)) all) c.in_ok-copy-2.ensures whole)
