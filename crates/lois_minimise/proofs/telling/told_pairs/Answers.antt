use Rattle.std.proofs.Common.{◌≡◌, map, ◌∙◌, ap, arith}
use Rattle.lois_base.specs.Data.{coll, comps_of}
use Rattle.lois_base.specs.Tree.{comp_of}
use Rattle.lois_base.specs.Validity.{AdmitsTerm, AdmitsComp}
use Rattle.lois_base.specs.Values.{point, IsIn}
use Rattle.lois_terms.specs.Shapes.{item_shape}
use Rattle.lois_relate.proofs.Parts.{is_comp_of}
use Rattle.lois_automata.specs.Built.{IsLedFrom}
use Rattle.lois_minimise.proofs.Matching.{MatchesOnes, ones_met_begin, ones_met_more, ones_met_end}
use Rattle.lois_minimise.proofs.OfShape.{are_told}
use Rattle.lois_minimise.proofs.telling.told_pairs.Goals as goal

pub add_told-requires-clause-over : goal.add_told-requires-clause-over
add_told-requires-clause-over g c =
    let k = is_comp_of c.as_slice-comp-items.result.now c.args.moves.now c.loop-comp.comp-index c.comp-item.result c.as_slice-comp-items.ensures c.loop-comp-test.true c.comp-item.is in
    record {
      levels = k.fits c.args.size c.requires.over.levels;
      operators = k.admits g.T.Structure.ordered c.requires.over.operators;
    }

pub add_told-requires-clause-shapes : goal.add_told-requires-clause-shapes
add_told-requires-clause-shapes g c = c.in_ok-index.ensures ∙ ap (map item_shape) c.as_slice.ensures

pub loop-comp-init : goal.loop-comp-init
loop-comp-init g c =
    let held = coll (comps_of c.args.held.now) in
    let left = coll (comps_of c.args.left.now) in
    ones_met_begin (IsLedFrom held) (λ d w. IsIn w (point left d)) (λ o. AdmitsTerm o held) c.args.size c.args.moves.now c.as_slice-comp-items.result.now c.new-told.result c.as_slice-comp-items.ensures c.new-told.ensures

pub loop-comp-preserved : goal.loop-comp-preserved
loop-comp-preserved g c =
    let held = coll (comps_of c.args.held.now) in
    let left = coll (comps_of c.args.left.now) in
    let k = c.comp-item.result in
    let wanted : c.in_ok-wanted.wanted ≡ map item_shape c.args.left.now = c.in_ok-wanted.ensures ∙ ap (map item_shape) c.as_slice-2.ensures in
    ones_met_more (IsLedFrom held) (λ d w. IsIn w (point left d)) (λ o. AdmitsTerm o held) c.args.size c.args.moves.now (λ o. AdmitsComp o (comp_of k) × AdmitsTerm o held) c.as_slice-comp-items.result.now c.loop-comp.comp-index k (comps_of c.loop-comp.told) (comps_of c.add_told.new.told) c.as_slice-comp-items.ensures c.loop-comp-test.true c.comp-item.is (λ o a. a) c.loop-comp.invariant (c.in_ok-add_told.ensures c.args.left.now wanted)

pub returns-clause-members : goal.returns-clause-members
returns-clause-members g c =
    let n = c.args.size in
    let held = coll (comps_of c.args.held.now) in
    let left = coll (comps_of c.args.left.now) in
    let made = comps_of c.loop-comp.told in
    let all : MatchesOnes (IsLedFrom held) (λ d w. IsIn w (point left d)) (λ o. AdmitsTerm o held) n c.args.moves.now made = ones_met_end (IsLedFrom held) (λ d w. IsIn w (point left d)) (λ o. AdmitsTerm o held) n c.args.moves.now c.as_slice-comp-items.result.now c.loop-comp.comp-index made (omega (arith, c.loop-comp-test.false)) c.loop-comp.invariant in
    are_told n c.args.moves.now made held left all

pub returns-clause-levels : goal.returns-clause-levels
returns-clause-levels g c = c.loop-comp.invariant.levels c.requires.over.levels tt

pub returns-clause-operators : goal.returns-clause-operators
returns-clause-operators g c = λ o a b. c.loop-comp.invariant.operators o (a, b) tt
