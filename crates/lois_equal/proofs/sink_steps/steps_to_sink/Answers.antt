use Rattle.std.proofs.Common.{◌+◌, ap, arith}
use Rattle.lois_base.specs.Data.{comps_of}
use Rattle.lois_base.specs.Tree.{tree, comp_of}
use Rattle.lois_relate.proofs.Parts.{comps_from, comps_are, no_comps_left, is_comp_of}
use Rattle.lois_equal.proofs.SinkSteps.{led_begin, led_more, led_end}
use Rattle.lois_equal.proofs.sink_steps.steps_to_sink.Goals as goal

pub add_step_to_sink-requires-clause-over : goal.add_step_to_sink-requires-clause-over
add_step_to_sink-requires-clause-over g c =
    let k = is_comp_of c.as_slice-comp-items.result.now c.args.pairs.now c.loop-comp.comp-index c.comp-item.result c.as_slice-comp-items.ensures c.loop-comp-test.true c.comp-item.is in
    record {
      levels = k.fits c.args.size c.requires.pairs.levels;
      operators = k.admits g.T.Structure.ordered c.requires.pairs.operators;
    }

pub loop-comp-init : goal.loop-comp-init
loop-comp-init g c = led_begin c.args.size (comps_of c.args.pairs.now) (tree c.args.there.now) (tree c.args.sink.now) (comps_from c.as_slice-comp-items.result.now 0) (comps_of c.new-made.result) (ap comps_of c.as_slice-comp-items.ensures) (ap comps_of c.new-made.ensures)

pub loop-comp-preserved : goal.loop-comp-preserved
loop-comp-preserved g c =
    let n = c.args.size in
    let k = c.comp-item.result in
    let items = c.as_slice-comp-items.result.now in
    let i = c.loop-comp.comp-index in
    let pairs = c.args.pairs.now in
    let made = comps_of c.loop-comp.made in
    let longer = comps_of c.add_step_to_sink.new.made in
    let of = is_comp_of items pairs i k c.as_slice-comp-items.ensures c.loop-comp-test.true c.comp-item.is in
    led_more n (comps_of pairs) (tree c.args.there.now) (tree c.args.sink.now) (comps_from items i) (comps_from items (i + 1)) made longer (comp_of k) (comps_are items i k c.loop-comp-test.true c.comp-item.is) (of.fits n) of.admits of.widths c.in_ok-add_step_to_sink.ensures c.loop-comp.invariant

pub returns-clause-led : goal.returns-clause-led
returns-clause-led g c =
    let items = c.as_slice-comp-items.result.now in
    let i = c.loop-comp.comp-index in
    led_end c.args.size (comps_of c.args.pairs.now) (tree c.args.there.now) (tree c.args.sink.now) (comps_from items i) (comps_of c.loop-comp.made) (no_comps_left items i (omega (arith, c.loop-comp-test.false))) c.loop-comp.invariant

pub returns-clause-levels : goal.returns-clause-levels
returns-clause-levels g c = c.loop-comp.invariant.0.levels c.requires.pairs.levels tt

pub returns-clause-operators : goal.returns-clause-operators
returns-clause-operators g c = λ o a b d. c.loop-comp.invariant.0.operators o (a, (b, d)) tt

pub returns-clause-widths : goal.returns-clause-widths
returns-clause-widths g c = λ u v. c.loop-comp.invariant.0.widths (u, v) tt
