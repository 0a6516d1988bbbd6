use Rattle.std.proofs.Common.{ap, subst}
use Rattle.lois_base.specs.Data.{coll, comps_of}
use Rattle.lois_base.specs.Tree.{tree}
use Rattle.lois_algebra.specs.Sets.{IsUnion}
use Rattle.lois_minimise.proofs.Ordered.{are_both_ways}
use Rattle.lois_minimise.proofs.ordering.both_ways.Goals as goal

pub returns-clause-members : goal.returns-clause-members
returns-clause-members c = λ n d l.
    let pairs = coll (comps_of c.args.pairs.now) in
    let other = coll (comps_of c.in_ok-turned.field-0) in
    let both = coll (comps_of c.in-Coll.both) in
    let all : IsUnion pairs other both = subst (λ z. IsUnion (coll (comps_of z)) other both) c.in_ok-copy.ensures
    (subst (λ z. IsUnion (coll (comps_of c.in_ok-copy.field-0)) other z) (ap tree c.in-Coll.is) c.in_ok-both.ensures.members) in
    are_both_ways n pairs other both (c.in_ok-turned.ensures.members n) all d l
