use Rattle.std.proofs.Common.{take, map, sym, subst}
use Rattle.std.proofs.lemmas.List.Elements.{All-push, All-weaker}
use Rattle.std.specs.List.{All}
use Rattle.lois_base.proofs.Viewed.{one_more, all_taken, contains_item}
use Rattle.lois_base.specs.Data.{comps_of}
use Rattle.lois_base.specs.Tree.{comp_of}
use Rattle.lois_deciders.proofs.OnlyAsked.{only_asked_then}
use Rattle.lois_relate.proofs.Parts.{is_comp_of}
use Rattle.lois_census.specs.Left.{IsCoveredByOrbits}
use Rattle.lois_census.specs.Orbits.{AreTakenInOrder}
use Rattle.lois_census.proofs.TheCensus.{all_usable, still_covered, still_taken, still_in_order}
use Rattle.lois_census.proofs.listing.all_orbits.Goals as goal

pub add_orbits-requires-clause-over : goal.add_orbits-requires-clause-over
add_orbits-requires-clause-over g c =
    let k = is_comp_of c.as_slice-comp-items.result.now c.args.comps.now c.loop-comp.comp-index c.comp-item.result c.as_slice-comp-items.ensures c.loop-comp-test.true c.comp-item.is in
    record {
      levels = k.fits 0 c.requires.over.levels;
      operators = k.admits g.T.Structure.ordered c.requires.over.operators;
    }

pub add_orbits-requires-clause-usable : goal.add_orbits-requires-clause-usable
add_orbits-requires-clause-usable g c =
    all_usable g.T.Structure.ordered c.args.comps.now c.requires.over.levels c.requires.over.operators c.loop-comp.orbits c.loop-comp.invariant.taken

pub loop-comp-preserved : goal.loop-comp-preserved
loop-comp-preserved g c =
    let ks = c.args.comps.now in
    let items = c.as_slice-comp-items.result.now in
    let i = c.loop-comp.comp-index in
    let k = c.comp-item.result in
    let before = c.loop-comp.orbits in
    let after = c.add_orbits.new.orbits in
    let kept = c.loop-comp.invariant in
    let Covered = IsCoveredByOrbits g.T.Structure.ordered after in
    record {
      taken = still_taken g.T.Structure.ordered (comp_of k) before after c.in_ok-add_orbits.ensures.added ks (contains_item comp_of items ks i k c.as_slice-comp-items.ensures c.loop-comp-test.true c.comp-item.is) kept.taken;
      in_order =
          subst (λ qs. AreTakenInOrder g.T.Structure.ordered (comps_of qs) after) (sym (one_more comp_of items i k c.loop-comp-test.true c.comp-item.is))
          (still_in_order g.T.Structure.ordered (comp_of k) (map comp_of (take i items)) before after c.in_ok-add_orbits.ensures.added kept.in_order);
      covered =
          subst (All Covered) (sym (one_more comp_of items i k c.loop-comp-test.true c.comp-item.is))
          (All-push Covered (map comp_of (take i items)) (comp_of k) (All-weaker (IsCoveredByOrbits g.T.Structure.ordered before) Covered (still_covered g.T.Structure.ordered (comp_of k) before after c.in_ok-add_orbits.ensures.added) (map comp_of (take i items)) kept.covered) c.in_ok-add_orbits.ensures.covered);
      apart = c.in_ok-add_orbits.ensures.apart;
      only_asked = only_asked_then (λ b. (goal.Decider-dyn g (b.vtable, b.value)).kind_of b.value) (λ b. (goal.Decider-dyn g (b.vtable, b.value)).questions b.value) c.args.chosen.now c.loop-comp.chosen c.add_orbits.new.chosen kept.only_asked c.add_orbits.ensures.only_asked;
    }

pub returns-clause-covered : goal.returns-clause-covered
returns-clause-covered g c =
    subst (All (IsCoveredByOrbits g.T.Structure.ordered c.loop-comp.orbits)) (all_taken comp_of c.as_slice-comp-items.result.now c.args.comps.now c.loop-comp.comp-index c.as_slice-comp-items.ensures c.loop-comp-test.false) c.loop-comp.invariant.covered

pub returns-clause-in_order : goal.returns-clause-in_order
returns-clause-in_order g c =
    subst (λ qs. AreTakenInOrder g.T.Structure.ordered (comps_of qs) c.loop-comp.orbits) (all_taken comp_of c.as_slice-comp-items.result.now c.args.comps.now c.loop-comp.comp-index c.as_slice-comp-items.ensures c.loop-comp-test.false) c.loop-comp.invariant.in_order
