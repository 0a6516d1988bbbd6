use Rattle.std.proofs.Common.{take, map, sym, subst}
use Rattle.std.proofs.lemmas.List.Elements.{All-nil}
use Rattle.lois_base.proofs.Viewed.{one_more, all_taken, item_has}
use Rattle.lois_base.specs.Fits.{CubeFits, ConstraintFits}
use Rattle.lois_base.specs.Tree.{tree}
use Rattle.lois_base.specs.Validity.{AdmitsCube, AdmitsConstraint}
use Rattle.lois_census.specs.Left.{HoldsWhereListed, IsUsable}
use Rattle.lois_census.specs.OrbitView.{orbit_of}
use Rattle.lois_census.proofs.Lefts.{listed_begin, listed_more}
use Rattle.lois_census.proofs.listing.in_listed.Goals as goal

pub loop-orbit-init : goal.loop-orbit-init
loop-orbit-init g c = record {
  listed = listed_begin g.T.Structure.ordered c.args.comp.now.binders (tree c.args.comp.now.item) c.new-taken.result c.new-taken.ensures;
  fits = subst (ConstraintFits c.args.comp.now.binders) (sym c.new-taken.ensures) (All-nil (CubeFits c.args.comp.now.binders));
  operators = subst (AdmitsConstraint g.T.Structure.ordered) (sym c.new-taken.ensures) (All-nil (AdmitsCube g.T.Structure.ordered));
}

pub or_in_listed-requires-clause-orbit : goal.or_in_listed-requires-clause-orbit
or_in_listed-requires-clause-orbit g c =
    item_has orbit_of (IsUsable g.T.Structure.ordered) c.as_slice-orbit-items.result.now c.args.orbits.now c.loop-orbit.orbit-index c.orbit-item.result c.as_slice-orbit-items.ensures.items c.loop-orbit-test.true c.orbit-item.is c.requires.usable

pub loop-orbit-preserved : goal.loop-orbit-preserved
loop-orbit-preserved g c =
    let k = c.args.comp.now in
    let items = c.as_slice-orbit-items.result.now in
    let i = c.loop-orbit.orbit-index in
    let o = c.orbit-item.result in
    record {
      listed =
          subst (λ os. HoldsWhereListed g.T.Structure.ordered k.binders (tree k.item) os c.in_ok-taken.taken) (sym (one_more orbit_of items i o c.loop-orbit-test.true c.orbit-item.is))
          (listed_more g.T.Structure.ordered k.binders (tree k.item) (map orbit_of (take i items)) (orbit_of o) c.loop-orbit.taken c.in_ok-taken.taken c.loop-orbit.invariant.listed c.in_ok-taken.ensures.truth);
      fits = c.in_ok-taken.ensures.fits;
      operators = c.in_ok-taken.ensures.operators;
    }

pub returns-clause-truth : goal.returns-clause-truth
returns-clause-truth g c =
    subst (λ os. HoldsWhereListed g.T.Structure.ordered c.args.comp.now.binders (tree c.args.comp.now.item) os c.loop-orbit.taken) (all_taken orbit_of c.as_slice-orbit-items.result.now c.args.orbits.now c.loop-orbit.orbit-index c.as_slice-orbit-items.ensures.items c.loop-orbit-test.false) c.loop-orbit.invariant.listed
