use Rattle.std.proofs.Common.{arith}
use Rattle.lois_base.specs.Data.{comps_of}
use Rattle.lois_base.specs.Fits.{CompFits, ItemsFit}
use Rattle.lois_base.specs.Tree.{tree, comp_of}
use Rattle.lois_base.specs.Validity.{AdmitsTerm, AdmitsComp, AdmitsItems, CompHasBoundedWidths, ItemsHaveBoundedWidths}
use Rattle.lois_relate.proofs.Parts.{is_comp_of}
use Rattle.lois_shortest_word.specs.Pairs.{IsStepFrom}
use Rattle.lois_shortest_word.proofs.Each.{each_begin, each_more, each_end}
use Rattle.lois_shortest_word.proofs.joint_steps.add_steps_from.Goals as goal

pub add_step_from-requires-clause-over : goal.add_step_from-requires-clause-over
add_step_from-requires-clause-over g c =
    let k = is_comp_of c.as_slice-comp-items.result.now c.args.steps.now c.loop-comp.comp-index c.comp-item.result c.as_slice-comp-items.ensures c.loop-comp-test.true c.comp-item.is in
    record {
      levels = k.fits c.args.size c.requires.over.levels;
      operators = k.admits g.T.Structure.ordered c.requires.over.operators;
    }

pub loop-comp-init : goal.loop-comp-init
loop-comp-init g c = each_begin (IsStepFrom (tree c.args.held.now)) c.args.size c.args.steps.now _ _ _ (comps_of c.args.made.now) c.as_slice-comp-items.result.now c.as_slice-comp-items.ensures

pub loop-comp-preserved : goal.loop-comp-preserved
loop-comp-preserved g c =
    let n = c.args.size in
    let held = tree c.args.held.now in
    let steps = c.args.steps.now in
    let one = c.comp-item.result in
    let items = c.as_slice-comp-items.result.now in
    let i = c.loop-comp.comp-index in
    let k = is_comp_of items steps i one c.as_slice-comp-items.ensures c.loop-comp-test.true c.comp-item.is in
    each_more (IsStepFrom held) n steps (ItemsFit n (comps_of steps)) (λ o. AdmitsItems o (comps_of steps) × AdmitsTerm o held) (ItemsHaveBoundedWidths (comps_of steps)) (comps_of c.args.made.now)
    (CompFits n (comp_of one)) (λ o. AdmitsComp o (comp_of one) × AdmitsTerm o held) (CompHasBoundedWidths (comp_of one)) items i one (comps_of c.loop-comp.made) (comps_of c.add_step_from.new.made) c.loop-comp-test.true c.comp-item.is
    (k.fits n) (λ o a. (k.admits o a.0, a.1)) k.widths c.loop-comp.invariant c.in_ok-add_step_from.ensures

pub returns : goal.returns
returns g c =
    let n = c.args.size in
    let held = tree c.args.held.now in
    let steps = c.args.steps.now in
    each_end (IsStepFrom held) n steps (ItemsFit n (comps_of steps)) (λ o. AdmitsItems o (comps_of steps) × AdmitsTerm o held) (ItemsHaveBoundedWidths (comps_of steps)) (comps_of c.args.made.now)
    c.as_slice-comp-items.result.now c.loop-comp.comp-index (comps_of c.loop-comp.made) (omega (arith, c.loop-comp-test.false)) c.loop-comp.invariant
