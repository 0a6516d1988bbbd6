use Rattle.std.proofs.Common.{◌≡◌, ◌<◌, length, zero-add, sym, ap, ◌∙◌, subst}
use Rattle.std.proofs.lemmas.List.{length-map}
use Rattle.std.specs.Bool.{IsTrue, IsFalse}
use Rattle.std.specs.List.{All}
use Rattle.lois_base.specs.Atom.{whole}
use Rattle.lois_base.specs.Fits.{ConstraintFits}
use Rattle.lois_base.specs.Patterns.{AreAlike}
use Rattle.lois_base.specs.Tree.{tree, comp_of}
use Rattle.lois_base.specs.Truth.{holds, sampled}
use Rattle.lois_deciders.proofs.Oracle.{some_is, none_is}
use Rattle.lois_deciders.proofs.OnlyAsked.{only_asked_nothing, only_asked_then}
use Rattle.lois_deciders.specs.Satisfaction.{IsConstraintSample}
use Rattle.lois_census.specs.Left.{AddsOnly}
use Rattle.lois_census.specs.Orbits.{IsTakenFrom}
use Rattle.lois_census.proofs.Lefts.{left_begin, left_more, covered}
use Rattle.lois_census.proofs.Lists.{adds_nothing, adds_then}
use Rattle.lois_census.proofs.Measures.{fewer}
use Rattle.lois_census.proofs.Ranked.{ranked_meets}
use Rattle.lois_census.proofs.listing.add_orbits.Goals as goal

pub samples-init : goal.samples-init
samples-init g c =
    let k = c.args.comp.now in
    record {
      left = left_begin g.T.Structure.ordered k.binders (tree k.item) k.guard c.args.orbits.now c.in_ok-left.left c.in_ok-left.ensures.truth;
      fits = c.in_ok-left.ensures.fits k.binders (subst (λ z. ConstraintFits z k.guard) (zero-add k.binders) c.requires.over.levels.1);
      operators = c.in_ok-left.ensures.operators g.T.Structure.ordered c.requires.over.operators.0;
      added = adds_nothing (IsTakenFrom g.T.Structure.ordered (comp_of k)) c.args.orbits.now;
      listed = c.in_ok-taken.ensures.truth;
      listed_fits = c.in_ok-taken.ensures.fits;
      listed_operators = c.in_ok-taken.ensures.operators;
      apart = c.requires.apart;
      only_asked = only_asked_nothing (λ b. (goal.Decider-dyn g (b.vtable, b.value)).kind_of b.value) (λ b. (goal.Decider-dyn g (b.vtable, b.value)).questions b.value) c.args.chosen.now;
    }

pub list_sample-requires-clause-sample : goal.list_sample-requires-clause-sample
list_sample-requires-clause-sample g c =
    let n = c.args.comp.now.binders in
    let u = c.samples.left in
    let s = c.in_ok-sample.sample in
    let found : IsConstraintSample n u c.in-Some.found.items = some_is (λ s. IsConstraintSample n u s.items) c.in_ok-found.field-0 c.in-Some.found c.in-Some.is c.in_ok-found.ensures.sample in
    let meets : IsConstraintSample n u s = ranked_meets g.T.Structure.ordered n u c.in-Some.found.items s (subst (λ z. AreAlike g.T.Structure.ordered (sampled z) (sampled s)) c.deref.ensures.value c.in_ok-sample.ensures.alike) (subst (λ z. All (λ k. k < length z) s) c.deref.ensures.value c.in_ok-sample.ensures.small) c.samples.invariant.fits c.samples.invariant.operators found in
    (meets.0, c.samples.invariant.left.within (sampled s) (length-map s whole ∙ meets.0.count) meets.1)

pub without_cube_at-requires-clause-fits : goal.without_cube_at-requires-clause-fits
without_cube_at-requires-clause-fits g c =
    let n = c.args.comp.now.binders in
    let u = c.samples.left in
    let s = c.in_ok-sample.sample in
    let found : IsConstraintSample n u c.in-Some.found.items = some_is (λ s. IsConstraintSample n u s.items) c.in_ok-found.field-0 c.in-Some.found c.in-Some.is c.in_ok-found.ensures.sample in
    let meets : IsConstraintSample n u s = ranked_meets g.T.Structure.ordered n u c.in-Some.found.items s (subst (λ z. AreAlike g.T.Structure.ordered (sampled z) (sampled s)) c.deref.ensures.value c.in_ok-sample.ensures.alike) (subst (λ z. All (λ k. k < length z) s) c.deref.ensures.value c.in_ok-sample.ensures.small) c.samples.invariant.fits c.samples.invariant.operators found in
    let count : length c.as_slice.result.now ≡ n = ap length c.as_slice.ensures ∙ meets.0.count in
    subst (λ k. ConstraintFits k u) (sym count) c.samples.invariant.fits

pub without_cube_at-requires-clause-taken_fits : goal.without_cube_at-requires-clause-taken_fits
without_cube_at-requires-clause-taken_fits g c =
    let n = c.args.comp.now.binders in
    let u = c.samples.left in
    let s = c.in_ok-sample.sample in
    let found : IsConstraintSample n u c.in-Some.found.items = some_is (λ s. IsConstraintSample n u s.items) c.in_ok-found.field-0 c.in-Some.found c.in-Some.is c.in_ok-found.ensures.sample in
    let meets : IsConstraintSample n u s = ranked_meets g.T.Structure.ordered n u c.in-Some.found.items s (subst (λ z. AreAlike g.T.Structure.ordered (sampled z) (sampled s)) c.deref.ensures.value c.in_ok-sample.ensures.alike) (subst (λ z. All (λ k. k < length z) s) c.deref.ensures.value c.in_ok-sample.ensures.small) c.samples.invariant.fits c.samples.invariant.operators found in
    let count : length c.as_slice.result.now ≡ n = ap length c.as_slice.ensures ∙ meets.0.count in
    subst (λ k. ConstraintFits k c.in_ok-taken-2.taken) (sym count) c.in_ok-taken-2.ensures.fits

pub without_cube_at-requires-clause-sample : goal.without_cube_at-requires-clause-sample
without_cube_at-requires-clause-sample g c =
    subst (λ s. IsTrue (holds (sampled s) c.in_ok-taken-2.taken)) (sym c.as_slice.ensures) c.in_ok-taken-2.ensures.holds

pub samples-smaller : goal.samples-smaller
samples-smaller g c =
    let n = c.args.comp.now.binders in
    let u = c.samples.left in
    let r = c.in_ok-left-2.left in
    let s = c.in_ok-sample.sample in
    let found : IsConstraintSample n u c.in-Some.found.items = some_is (λ s. IsConstraintSample n u s.items) c.in_ok-found.field-0 c.in-Some.found c.in-Some.is c.in_ok-found.ensures.sample in
    let meets : IsConstraintSample n u s = ranked_meets g.T.Structure.ordered n u c.in-Some.found.items s (subst (λ z. AreAlike g.T.Structure.ordered (sampled z) (sampled s)) c.deref.ensures.value c.in_ok-sample.ensures.alike) (subst (λ z. All (λ k. k < length z) s) c.deref.ensures.value c.in_ok-sample.ensures.small) c.samples.invariant.fits c.samples.invariant.operators found in
    fewer n u r s meets (λ e. (c.in_ok-left-2.ensures.left e).within) (subst (λ s. IsFalse (holds (sampled s) r)) c.as_slice.ensures c.in_ok-left-2.ensures.gone)

pub samples-preserved : goal.samples-preserved
samples-preserved g c =
    let k = c.args.comp.now in
    let os = c.samples.orbits in
    let ys = c.list_sample.new.orbits in
    let u = c.samples.left in
    let taken = c.in_ok-taken-2.taken in
    let r = c.in_ok-left-2.left in
    let kept = c.samples.invariant in
    let more : AddsOnly (IsTakenFrom g.T.Structure.ordered (comp_of k)) os ys = c.in_ok-taken-2.ensures.added in
    record {
      left = left_more g.T.Structure.ordered k.binders (tree k.item) k.guard os ys more.0 u taken r kept.left more.1 c.in_ok-taken-2.ensures.truth c.in_ok-left-2.ensures.left;
      fits = c.in_ok-left-2.ensures.fits k.binders kept.fits c.in_ok-taken-2.ensures.fits;
      operators = c.in_ok-left-2.ensures.operators g.T.Structure.ordered kept.operators c.in_ok-taken-2.ensures.operators;
      added = adds_then (IsTakenFrom g.T.Structure.ordered (comp_of k)) c.args.orbits.now os ys kept.added more;
      listed = c.in_ok-taken-2.ensures.truth;
      listed_fits = c.in_ok-taken-2.ensures.fits;
      listed_operators = c.in_ok-taken-2.ensures.operators;
      apart = c.in_ok-taken-2.ensures.apart;
      only_asked = only_asked_then (λ b. (goal.Decider-dyn g (b.vtable, b.value)).kind_of b.value) (λ b. (goal.Decider-dyn g (b.vtable, b.value)).questions b.value) c.args.chosen.now c.samples.chosen c.ask.new.self kept.only_asked c.ask.ensures.only_asked;
    }

pub returns-clause-covered : goal.returns-clause-covered
returns-clause-covered g c =
    let k = c.args.comp.now in
    covered g.T.Structure.ordered k.binders (tree k.item) k.guard c.samples.orbits c.samples.left c.samples.invariant.left (c.in_ok-found.ensures.none.0 (none_is c.in_ok-found.field-0 c.in_default.is))
