use Rattle.std.proofs.Common.{ap, subst}
use Rattle.std.proofs.lemmas.Result.{IfOk-weaker}
use Rattle.lois_base.specs.Data.{coll, comps_of}
use Rattle.lois_base.specs.Tree.{tree}
use Rattle.lois_algebra.specs.Sets.{IsUnion}
use Rattle.lois_automata.specs.Built.{ArePairs}
use Rattle.lois_equal.proofs.Total.{are_total}
use Rattle.lois_equal.proofs.sink_steps.total_steps.Goals as goal

pub returns-clause-total : goal.returns-clause-total
returns-clause-total g c =
    let n = c.args.size in
    let states = coll (comps_of c.args.states.now) in
    let letters = coll (comps_of c.args.letters.now) in
    let steps = coll (comps_of c.args.steps.now) in
    let sink = tree c.args.sink.now in
    let wanted = coll (comps_of c.in-Coll.wanted) in
    let there = tree c.in_ok-there.there in
    let others = coll (comps_of c.in_ok-others.others) in
    let copied = c.in_ok-copy.field-0 in
    let pairs : ArePairs n states letters wanted = subst (λ z. ArePairs n states letters z) (ap tree c.in-Coll.is) c.in_ok-wanted.ensures.members in
    IfOk-weaker c.union.result (λ r. IsUnion (coll (comps_of copied)) others (tree r)) _ (λ r all d l.
    are_total n states letters steps sink wanted there others (tree r) d l pairs (c.in_ok-there.ensures.members n) (c.in_ok-others.ensures.led d l)
    (subst (λ z. IsUnion (coll (comps_of z)) others (tree r)) c.in_ok-copy.ensures all)) c.union.ensures.members
