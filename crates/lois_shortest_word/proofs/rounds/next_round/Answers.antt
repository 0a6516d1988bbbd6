use Rattle.std.proofs.Common.{refl, ap, sym, subst, ◌∙◌}
use Rattle.lois_base.specs.Data.{coll, comps_of}
use Rattle.lois_base.specs.Tree.{tree}
use Rattle.lois_algebra.specs.Sets.{IsUnion}
use Rattle.lois_automata.specs.Projections.{AreProjected}
use Rattle.lois_automata.specs.declared.projections.Projection.TheVariants.{Target}
use Rattle.lois_shortest_word.proofs.NextRound.{none_left, is_round, is_last_round}
use Rattle.lois_shortest_word.proofs.rounds.next_round.Goals as goal

pub returns-then-len-eq0-clause-none : goal.returns-then-len-eq0-clause-none
returns-then-len-eq0-clause-none g c = λ _.
    let n = c.args.size in
    let further = comps_of c.in_ok-further.further in
    let targets = comps_of c.in-Coll.targets in
    let fresh = c.in_ok-fresh.fresh in
    let are : AreProjected n Target (coll further) (coll targets) = subst (AreProjected n Target (coll further)) (ap tree c.in-Coll.is) (c.in_ok-targets.ensures.members n) in
    is_last_round n (coll (comps_of c.args.one.now)) (coll (comps_of c.args.other.now)) c.args.reached further targets c.in_ok-further.ensures.members are (comps_of c.take_fresh.new.seen) (comps_of fresh) c.in_ok-fresh.ensures (none_left fresh (sym c.len.ensures ∙ c.if-len-eq0.true))

pub returns-clause-some : goal.returns-clause-some
returns-clause-some g c =
    let n = c.args.size in
    let r = c.args.reached in
    let further = comps_of c.in_ok-further.further in
    let targets = comps_of c.in-Coll.targets in
    let are : AreProjected n Target (coll further) (coll targets) = subst (AreProjected n Target (coll further)) (ap tree c.in-Coll.is) (c.in_ok-targets.ensures.members n) in
    let all : IsUnion (coll (comps_of r.steps)) (coll further) (coll (comps_of c.in-Coll-2.whole)) = subst (IsUnion (coll (comps_of r.steps)) (coll further)) (ap tree c.in-Coll-2.is) c.in_ok-whole.ensures.members in
    is_round n (coll (comps_of c.args.one.now)) (coll (comps_of c.args.other.now)) r further targets c.in_ok-further.ensures.members are (comps_of c.take_fresh.new.seen) (comps_of c.in_ok-fresh.fresh) c.in_ok-fresh.ensures
    (record { steps = c.in-Coll-2.whole; seen = c.take_fresh.new.seen; frontier = c.in_ok-fresh.fresh }) refl refl all
