use Rattle.std.proofs.Common.{◌≡◌, length, sym, ap, ◌∙◌, subst}
use Rattle.std.specs.Bool.{IsTrue, IsFalse}
use Rattle.std.specs.List.{AllPairs}
use Rattle.lois_base.specs.Fits.{ConstraintFits}
use Rattle.lois_base.specs.Tree.{tree, comp_of}
use Rattle.lois_base.specs.Truth.{holds, sampled}
use Rattle.lois_deciders.specs.Satisfaction.{IsConstraintSample}
use Rattle.lois_ranks.specs.Ranks.{AreRanks}
use Rattle.lois_census.specs.Left.{HoldsWhereListed}
use Rattle.lois_census.specs.OrbitData.{OrbitD}
use Rattle.lois_census.specs.Orbits.{AreDisjointOrbits, IsTakenFrom}
use Rattle.lois_census.proofs.Lefts.{listed_more, or_own, apart_from, pairs_more}
use Rattle.lois_census.proofs.Lists.{adds_nothing, adds_one}
use Rattle.lois_census.proofs.TheCensus.{taken_usable}
use Rattle.lois_census.proofs.listing.list_sample.Goals as goal

pub at-requires : goal.at-requires
at-requires g c =
    let count : length c.as_slice.result.now ≡ c.args.comp.now.binders = ap length c.as_slice.ensures ∙ c.requires.sample.0.count in
    subst (λ n. ConstraintFits n c.args.taken) (sym count) c.requires.taken_over.levels

pub returns-then-at-clause-holds : goal.returns-then-at-clause-holds
returns-then-at-clause-holds g c =
    subst (λ s. IsTrue (holds (sampled s) c.args.taken)) c.as_slice.ensures (sym c.at.ensures ∙ c.if-at.true)

pub returns-then-at-clause-added : goal.returns-then-at-clause-added
returns-then-at-clause-added g c = adds_nothing (IsTakenFrom g.T.Structure.ordered (comp_of c.args.comp.now)) c.args.orbits.now

pub or_in_orbit-requires-clause-orbit : goal.or_in_orbit-requires-clause-orbit
or_in_orbit-requires-clause-orbit g c =
    let k = c.args.comp.now in
    let o : OrbitD = record { item = tree c.in_ok-copy.field-0; sample = c.in_ok-copy-2.field-0 } in
    taken_usable g.T.Structure.ordered (comp_of k) o c.requires.over.levels c.requires.over.operators (ap tree c.in_ok-copy.ensures, subst (IsConstraintSample k.binders k.guard) (sym c.in_ok-copy-2.ensures) c.requires.sample, subst (AreRanks g.T.Structure.ordered) (sym c.in_ok-copy-2.ensures) c.requires.ranked)

pub returns-clause-truth : goal.returns-clause-truth
returns-clause-truth g c =
    let k = c.args.comp.now in
    let o : OrbitD = record { item = tree c.in_ok-copy.field-0; sample = c.in_ok-copy-2.field-0 } in
    subst (λ os. HoldsWhereListed g.T.Structure.ordered k.binders (tree k.item) os c.in_ok-more.more) (sym c.in_ok-push.ensures.appended) (listed_more g.T.Structure.ordered k.binders (tree k.item) c.args.orbits.now o c.args.taken c.in_ok-more.more c.requires.taken c.in_ok-more.ensures.truth)

pub returns-clause-holds : goal.returns-clause-holds
returns-clause-holds g c =
    let k = c.args.comp.now in
    let o : OrbitD = record { item = tree c.in_ok-copy.field-0; sample = c.in_ok-copy-2.field-0 } in
    let count : length o.sample ≡ k.binders = ap length c.in_ok-copy-2.ensures ∙ c.requires.sample.0.count in
    subst (λ s. IsTrue (holds (sampled s) c.in_ok-more.more)) c.in_ok-copy-2.ensures (or_own g.T.Structure.ordered k.binders (tree k.item) o c.args.taken c.in_ok-more.more c.in_ok-more.ensures.truth (ap tree c.in_ok-copy.ensures) count)

pub returns-clause-added : goal.returns-clause-added
returns-clause-added g c =
    let k = c.args.comp.now in
    let o : OrbitD = record { item = tree c.in_ok-copy.field-0; sample = c.in_ok-copy-2.field-0 } in
    adds_one (IsTakenFrom g.T.Structure.ordered (comp_of k)) c.args.orbits.now c.push.new.self o (ap tree c.in_ok-copy.ensures, subst (IsConstraintSample k.binders k.guard) (sym c.in_ok-copy-2.ensures) c.requires.sample, subst (AreRanks g.T.Structure.ordered) (sym c.in_ok-copy-2.ensures) c.requires.ranked) c.in_ok-push.ensures.appended

pub returns-clause-apart : goal.returns-clause-apart
returns-clause-apart g c =
    let k = c.args.comp.now in
    let os = c.args.orbits.now in
    let taken = c.args.taken in
    let o : OrbitD = record { item = tree c.in_ok-copy.field-0; sample = c.in_ok-copy-2.field-0 } in
    let count : length o.sample ≡ k.binders = ap length c.in_ok-copy-2.ensures ∙ c.requires.sample.0.count in
    let outside : IsFalse (holds (sampled o.sample) taken) = subst (λ s. IsFalse (holds (sampled s) taken)) (c.as_slice.ensures ∙ sym c.in_ok-copy-2.ensures) (sym c.at.ensures ∙ c.if-at.false) in
    subst (AllPairs (AreDisjointOrbits g.T.Structure.ordered)) (sym c.in_ok-push.ensures.appended)
    (pairs_more g.T.Structure.ordered os o c.requires.apart (apart_from g.T.Structure.ordered k.binders (tree k.item) os taken c.requires.taken c.requires.taken_over.levels c.requires.taken_over.operators o (ap tree c.in_ok-copy.ensures) count outside))
