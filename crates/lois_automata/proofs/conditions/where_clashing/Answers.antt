use Rattle.std.proofs.Common.{◌≡◌, ℕ, ◌<◌, ◌+◌, Some, [], length, get_or, drop, map, refl, subst, sym, ap, ◌∙◌, arith}
use Rattle.std.proofs.lemmas.Grind.{common_steps}
use Rattle.std.proofs.lemmas.List.{length-map}
use Rattle.std.proofs.lemmas.List.Elements.{All-nil, All-append}
use Rattle.std.specs.Prelude.{slice_get, Contains}
use Rattle.lois_base.proofs.Both.{holds_append}
use Rattle.lois_base.specs.Data.{comps_of}
use Rattle.lois_base.specs.Fits.{CubeFits, ConstraintFits}
use Rattle.lois_base.specs.Tree.{comp_of}
use Rattle.lois_base.specs.Truth.{holds}
use Rattle.lois_algebra.specs.Gathered.{IsAmong, IsCompMember}
use Rattle.lois_relate.specs.Candidates.{comps_at}
use Rattle.lois_relate.proofs.Parts.{is_comp_of}
use Rattle.lois_relate.proofs.Places.{places_are}
use Rattle.lois_automata.specs.KeyShapes.{comp_key_shape}
use Rattle.lois_automata.specs.Projections.{AllAgree}
use Rattle.lois_automata.specs.Verdicts.{HoldsUnless}
use Rattle.lois_automata.proofs.KeyShapes.{agree_all}
use Rattle.lois_automata.proofs.Tests.{clash_begin, clash_more, clash_end, unless_as}
use Rattle.lois_automata.proofs.conditions.where_clashing.Goals as goal

pub bounds-comps-place : goal.bounds-comps-place
bounds-comps-place g c =
    let places = c.positions-place-items.result.now in
    let within = c.positions-place-items.ensures.within c.loop-place.place-index 0 c.loop-place-test.true in
    omega (arith, within, ap length c.requires.keys, length-map c.args.others.now comp_key_shape, ap length c.as_slice-comps.ensures, length-map c.as_slice-comps.result.now comp_of)

pub where_differing-requires-clause-second : goal.where_differing-requires-clause-second
where_differing-requires-clause-second g c =
    let items = c.as_slice-comps.result.now in
    let places = c.positions-place-items.result.now in
    let i = get_or places c.loop-place.place-index 0 in
    let within = c.positions-place-items.ensures.within c.loop-place.place-index 0 c.loop-place-test.true in
    let inside : i < length items = omega (arith, within, ap length c.requires.keys, length-map c.args.others.now comp_key_shape, ap length c.as_slice-comps.ensures, length-map items comp_of) in
    let q = c.index-comps-place.result in
    let k = is_comp_of items c.args.others.now i q c.as_slice-comps.ensures inside c.index-comps-place.is in
    record {
      levels = k.fits c.args.size c.requires.second.levels;
      operators = k.admits g.T.Structure.ordered c.requires.second.operators;
    }

pub loop-place-init : goal.loop-place-init
loop-place-init g c = (
  clash_begin c.args.size (comp_of c.args.first.now) (comps_at (map comp_of c.as_slice-comps.result.now) c.positions-place-items.result.now) c.new-found.result c.new-found.ensures,
  subst (λ z. ConstraintFits c.args.size z) (sym c.new-found.ensures) (All-nil (CubeFits c.args.size)),
)

pub loop-place-preserved : goal.loop-place-preserved
loop-place-preserved g c =
    let n = c.args.size in
    let items = c.as_slice-comps.result.now in
    let places = c.positions-place-items.result.now in
    let r = c.loop-place.place-index in
    let i = get_or places r 0 in
    let within = c.positions-place-items.ensures.within r 0 c.loop-place-test.true in
    let inside : i < length items = omega (arith, within, ap length c.requires.keys, length-map c.args.others.now comp_key_shape, ap length c.as_slice-comps.ensures, length-map items comp_of) in
    let q = c.index-comps-place.result in
    let whole = comps_at (map comp_of items) places in
    let rest = comps_at (map comp_of items) (drop r places) in
    let next = comps_at (map comp_of items) (drop (r + 1) places) in
    let before = c.loop-place.found in
    let clash = c.in_ok-clash.clash in
    let after = c.append.new.cubes in (
      clash_more n (comp_of c.args.first.now) whole rest next (comp_of q) before clash after (places_are items places r i q c.loop-place-test.true refl inside c.index-comps-place.is) c.in_ok-clash.ensures.truth (λ d. ap (holds d) c.in_ok-append.ensures ∙ holds_append d before clash) c.loop-place.invariant.0,
      subst (ConstraintFits n) (sym c.in_ok-append.ensures) (All-append (CubeFits n) before clash c.loop-place.invariant.1 c.in_ok-clash.ensures.levels),
    )

pub returns-clause-truth : goal.returns-clause-truth
returns-clause-truth g c =
    let n = c.args.size in
    let k = comp_of c.args.first.now in
    let qs = map comp_of c.as_slice-comps.result.now in
    let places = c.positions-place-items.result.now in
    let none : drop c.loop-place.place-index places ≡ [] = grind (arith, common_steps) in
    let some = clash_end n k (comps_at qs places) (comps_at qs (drop c.loop-place.place-index places)) c.loop-place.found (ap (comps_at qs) none) c.loop-place.invariant.0 in
    let there : (i : ℕ) → slice_get (map comp_key_shape qs) i ≡ Some (comp_key_shape k) → Contains places i =
    λ i h. c.positions-place-items.ensures.found i (ap (λ z. slice_get z i) c.requires.keys ∙ (subst (λ z. slice_get (map comp_key_shape z) i ≡ Some (comp_key_shape k)) c.as_slice-comps.ensures h ∙ ap Some (sym c.key_shape.ensures))) in
    subst (λ z. HoldsUnless n (λ d. AllAgree (IsCompMember k d) (IsAmong (comps_of z) d)) c.loop-place.found) c.as_slice-comps.ensures
    (unless_as n (λ d. AllAgree (IsCompMember k d) (IsAmong (comps_at qs places) d)) (λ d. AllAgree (IsCompMember k d) (IsAmong (comps_of qs) d)) c.loop-place.found (λ d. agree_all k qs places there d) some)
