use Rattle.std.proofs.Common.{arith, ap, ◌∙◌}
use Rattle.lois_base.specs.Data.{coll, comps_of}
use Rattle.lois_terms.specs.Shapes.{item_shape}
use Rattle.std.proofs.Common.{map}
use Rattle.lois_relate.proofs.Parts.{is_comp_of}
use Rattle.lois_minimise.proofs.Matching.{reads_met_begin, reads_met_more, reads_met_end}
use Rattle.lois_minimise.proofs.transitions.transitions.Goals as goal

pub add_transitions-requires-clause-read : goal.add_transitions-requires-clause-read
add_transitions-requires-clause-read c =
    let q = is_comp_of c.as_slice-read-items.result.now c.args.reads.now c.loop-read.read-index c.read-item.result c.as_slice-read-items.ensures c.loop-read-test.true c.read-item.is in
    q.fits c.args.size c.requires.reads

pub loop-read-init : goal.loop-read-init
loop-read-init c = reads_met_begin c.args.size (coll (comps_of c.args.steps.now)) c.args.reads.now c.args.classes.now c.as_slice-read-items.result.now c.new-made.result c.as_slice-read-items.ensures c.new-made.ensures

pub loop-read-preserved : goal.loop-read-preserved
loop-read-preserved c =
    reads_met_more c.args.size (coll (comps_of c.args.steps.now)) c.args.reads.now c.args.classes.now c.as_slice-read-items.result.now c.loop-read.read-index c.read-item.result (comps_of c.loop-read.made) (comps_of c.add_transitions.new.made) c.as_slice-read-items.ensures c.loop-read-test.true c.read-item.is c.loop-read.invariant
    (c.in_ok-add_transitions.ensures c.args.steps.now (c.in_ok-shapes.ensures ∙ ap (map item_shape) c.as_slice.ensures))

pub returns-clause-members : goal.returns-clause-members
returns-clause-members c =
    reads_met_end c.args.size (coll (comps_of c.args.steps.now)) c.args.reads.now c.args.classes.now c.as_slice-read-items.result.now c.loop-read.read-index (comps_of c.loop-read.made) (omega (arith, c.loop-read-test.false)) c.loop-read.invariant

pub returns-clause-levels : goal.returns-clause-levels
returns-clause-levels c = c.loop-read.invariant.levels (c.requires.reads, c.requires.classes) tt

pub returns-clause-operators : goal.returns-clause-operators
returns-clause-operators c = λ o a b. c.loop-read.invariant.operators o (a, b) tt

pub returns-clause-widths : goal.returns-clause-widths
returns-clause-widths c = λ u v. c.loop-read.invariant.widths (u, v) tt
