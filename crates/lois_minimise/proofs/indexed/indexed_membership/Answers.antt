use Rattle.std.proofs.Common.{◌≡◌, ◌+◌, ◌<◌, ◌++◌, ◌↔◌, List, Some, map, length, get_or, drop, refl, ◌∙◌, sym, subst, ap, arith}
use Rattle.std.proofs.lemmas.List.{drop_all}
use Rattle.lois_base.specs.Data.{more, no_comps, coll, comps_of}
use Rattle.lois_base.specs.Atom.{Atom}
use Rattle.lois_base.specs.Fits.{ConstraintFits}
use Rattle.lois_base.specs.Values.{point, IsIn}
use Rattle.std.proofs.lemmas.Result.{IfOk-weaker}
use Rattle.lois_base.specs.Tree.{tree, comp_of}
use Rattle.lois_base.specs.Truth.{holds}
use Rattle.std.specs.Bool.{IsTrue}
use Rattle.lois_base.specs.Validity.{AdmitsTerm, AdmitsItems}
use Rattle.lois_terms.specs.Shapes.{item_shape}
use Rattle.lois_relate.specs.Candidates.{comps_at, AreCandidates}
use Rattle.lois_relate.proofs.Parts.{is_comp_of}
use Rattle.lois_relate.proofs.Places.{places_are, of_shape, as_many_shapes}
use Rattle.lois_minimise.proofs.Ties.{found_more, found_all, found_everywhere}
use Rattle.lois_minimise.proofs.indexed.indexed_membership.Goals as goal

pub comp_membership-requires-clause-over : goal.comp_membership-requires-clause-over
comp_membership-requires-clause-over g c =
    let items = c.as_slice-comps.result.now in
    let i = get_or c.positions-place-items.result.now c.loop-place.place-index 0 in
    let shapes = c.requires.shapes ∙ ap (map item_shape) (sym c.as_slice-comps.ensures) in
    let inside : i < length items = omega (arith, c.positions-place-items.ensures.within c.loop-place.place-index 0 c.loop-place-test.true, as_many_shapes items c.args.index.now shapes) in
    record {
      levels = (is_comp_of items c.args.set.now i c.index-comps-place.result c.as_slice-comps.ensures inside c.index-comps-place.is).fits c.args.size c.requires.set.levels;
      operators = (is_comp_of items c.args.set.now i c.index-comps-place.result c.as_slice-comps.ensures inside c.index-comps-place.is).admits g.T.Structure.ordered c.requires.set.operators;
    }

pub loop-place-preserved : goal.loop-place-preserved
loop-place-preserved g c =
    let n = c.args.size in
    let m = c.args.by in
    let item = tree c.args.item.now in
    let items = c.as_slice-comps.result.now in
    let set = c.args.set.now in
    let places = c.positions-place-items.result.now in
    let r = c.loop-place.place-index in
    let i = get_or places r 0 in
    let k = c.index-comps-place.result in
    let shapes = c.requires.shapes ∙ ap (map item_shape) (sym c.as_slice-comps.ensures) in
    let inside : i < length items = omega (arith, c.positions-place-items.ensures.within r 0 c.loop-place-test.true, as_many_shapes items c.args.index.now shapes) in
    let one = is_comp_of items set i k c.as_slice-comps.ensures inside c.index-comps-place.is in
    let first : comps_at set (drop r places) ≡ more (comp_of k) (comps_at set (drop (r + 1) places)) = subst (λ z. comps_at z (drop r places) ≡ more (comp_of k) (comps_at z (drop (r + 1) places))) c.as_slice-comps.ensures (places_are items places r i k c.loop-place-test.true refl inside c.index-comps-place.is) in
    found_more n m item (λ o. AdmitsTerm o item × AdmitsItems o (comps_of set)) (comp_of k) (comps_at set (drop r places)) (comps_at set (drop (r + 1) places)) (comps_at set places) c.loop-place.found c.in_ok-one.one c.in_ok-found.found first c.in_ok-one.ensures.truth c.in_ok-found.ensures.truth
    (c.in_ok-found.ensures.fits (n + m) c.loop-place.invariant.fits c.in_ok-one.ensures.fits)
    (λ o a. c.in_ok-found.ensures.operators o (c.loop-place.invariant.operators o a) (c.in_ok-one.ensures.operators o a.0 (one.admits o a.1))) c.loop-place.invariant

pub returns-then-len-lt2-clause-truth : goal.returns-then-len-lt2-clause-truth
returns-then-len-lt2-clause-truth g c =
    let item = tree c.args.item.now in
    let set = c.args.set.now in
    let places = c.positions-place-items.result.now in
    let r = c.loop-place.place-index in
    let found = c.loop-place.found in
    let all : AreCandidates set item places = of_shape set item c.args.index.now places c.requires.shapes (λ i e. c.positions-place-items.ensures.found i (e ∙ ap Some (sym c.shape.ensures.exact))) in
    let none : comps_at set (drop r places) ≡ no_comps = ap (comps_at set) (drop_all r places (omega (arith, c.loop-place-test.false))) in
    found_all c.args.size c.args.by item (λ o. AdmitsTerm o item × AdmitsItems o (comps_of set)) set places (comps_at set (drop r places)) found all none c.loop-place.invariant

pub returns-clause-truth : goal.returns-clause-truth
returns-clause-truth g c =
    let item = tree c.args.item.now in
    let set = c.args.set.now in
    let places = c.positions-place-items.result.now in
    let r = c.loop-place.place-index in
    let found = c.loop-place.found in
    let all : AreCandidates set item places = of_shape set item c.args.index.now places c.requires.shapes (λ i e. c.positions-place-items.ensures.found i (e ∙ ap Some (sym c.shape.ensures.exact))) in
    let none : comps_at set (drop r places) ≡ no_comps = ap (comps_at set) (drop_all r places (omega (arith, c.loop-place-test.false))) in
    let member = found_all c.args.size c.args.by item (λ o. AdmitsTerm o item × AdmitsItems o (comps_of set)) set places (comps_at set (drop r places)) found all none c.loop-place.invariant in
    IfOk-weaker c.prune.result (λ p. (e : List Atom) → holds e p ≡ holds e found) _ (λ p same d e dn en. subst (λ b. IsTrue b ↔ IsIn (point item (d ++ e)) (point (coll (comps_of set)) d)) (sym (same (d ++ e))) (member d e dn en)) c.prune.ensures.truth

pub returns-clause-fits : goal.returns-clause-fits
returns-clause-fits g c =
    IfOk-weaker c.prune.result _ (ConstraintFits (c.args.size + c.args.by)) (λ p keeps. keeps (c.args.size + c.args.by) c.loop-place.invariant.fits) c.prune.ensures.fits

pub returns-then-is_always-clause-truth : goal.returns-then-is_always-clause-truth
returns-then-is_always-clause-truth g c =
    let item = tree c.args.item.now in
    let items = c.as_slice-comps.result.now in
    let set = c.args.set.now in
    let places = c.positions-place-items.result.now in
    let r = c.loop-place.place-index in
    let i = get_or places r 0 in
    let k = c.index-comps-place.result in
    let shapes = c.requires.shapes ∙ ap (map item_shape) (sym c.as_slice-comps.ensures) in
    let inside : i < length items = omega (arith, c.positions-place-items.ensures.within r 0 c.loop-place-test.true, as_many_shapes items c.args.index.now shapes) in
    let first : comps_at set (drop r places) ≡ more (comp_of k) (comps_at set (drop (r + 1) places)) = subst (λ z. comps_at z (drop r places) ≡ more (comp_of k) (comps_at z (drop (r + 1) places))) c.as_slice-comps.ensures (places_are items places r i k c.loop-place-test.true refl inside c.index-comps-place.is) in
    let all : AreCandidates set item places = of_shape set item c.args.index.now places c.requires.shapes (λ i e. c.positions-place-items.ensures.found i (e ∙ ap Some (sym c.shape.ensures.exact))) in
    found_everywhere c.args.size c.args.by item (λ o. AdmitsTerm o item × AdmitsItems o (comps_of set)) set places (comp_of k) (comps_at set (drop r places)) (comps_at set (drop (r + 1) places)) c.loop-place.found c.in_ok-one.one all first c.in_ok-one.ensures.truth (λ x. subst (λ z. IsTrue (holds x z)) (sym (c.is_always.ensures.0 c.if-is_always.true)) refl) c.loop-place.invariant

pub returns-then-is_always-clause-operators : goal.returns-then-is_always-clause-operators
returns-then-is_always-clause-operators g c = λ o a b.
    let items = c.as_slice-comps.result.now in
    let i = get_or c.positions-place-items.result.now c.loop-place.place-index 0 in
    let shapes = c.requires.shapes ∙ ap (map item_shape) (sym c.as_slice-comps.ensures) in
    let inside : i < length items = omega (arith, c.positions-place-items.ensures.within c.loop-place.place-index 0 c.loop-place-test.true, as_many_shapes items c.args.index.now shapes) in
    let one = is_comp_of items c.args.set.now i c.index-comps-place.result c.as_slice-comps.ensures inside c.index-comps-place.is in
    c.in_ok-one.ensures.operators o a (one.admits o b)
