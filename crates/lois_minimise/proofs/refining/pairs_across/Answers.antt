use Rattle.std.proofs.Common.{ap, subst}
use Rattle.lois_base.specs.Data.{coll, comps_of}
use Rattle.lois_base.specs.Tree.{tree}
use Rattle.lois_algebra.specs.Sets.{IsUnion}
use Rattle.lois_minimise.proofs.Splits.{are_across}
use Rattle.lois_minimise.proofs.refining.pairs_across.Goals as goal

pub returns-clause-members : goal.returns-clause-members
returns-clause-members c =
    let one = tree c.in_ok-one.one in
    let other = tree c.in_ok-other.other in
    let both = coll (comps_of c.in-Coll.both) in
    let all : IsUnion one other both = subst (λ z. IsUnion one other z) (ap tree c.in-Coll.is) c.in_ok-both.ensures.members in
    are_across c.args.size (coll (comps_of c.args.first.now)) (coll (comps_of c.args.second.now)) (coll (comps_of c.args.third.now)) (coll (comps_of c.args.fourth.now)) one other both c.in_ok-one.ensures.members c.in_ok-other.ensures.members all
