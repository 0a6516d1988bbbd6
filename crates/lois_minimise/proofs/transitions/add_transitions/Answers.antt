use Rattle.std.proofs.Common.{arith}
use Rattle.lois_base.specs.Data.{coll, comps_of}
use Rattle.lois_base.specs.Tree.{comp_of}
use Rattle.lois_relate.proofs.Parts.{is_comp_of}
use Rattle.lois_minimise.proofs.Matching.{classes_met_begin, classes_met_more, classes_met_end}
use Rattle.lois_minimise.proofs.transitions.add_transitions.Goals as goal

pub add_transition-requires-clause-class : goal.add_transition-requires-clause-class
add_transition-requires-clause-class c =
    let q = is_comp_of c.as_slice-class-items.result.now c.args.classes.now c.loop-class.class-index c.class-item.result c.as_slice-class-items.ensures c.loop-class-test.true c.class-item.is in
    q.fits c.args.size c.requires.classes

pub loop-class-init : goal.loop-class-init
loop-class-init c = λ steps are. classes_met_begin c.args.size (coll (comps_of steps)) (comp_of c.args.read.now) c.args.classes.now (comps_of c.args.made.now) c.as_slice-class-items.result.now c.as_slice-class-items.ensures

pub loop-class-preserved : goal.loop-class-preserved
loop-class-preserved c = λ steps are.
    classes_met_more c.args.size (coll (comps_of steps)) (comp_of c.args.read.now) c.args.classes.now (comps_of c.args.made.now) c.as_slice-class-items.result.now c.loop-class.class-index c.class-item.result (comps_of c.loop-class.made) (comps_of c.add_transition.new.made) c.as_slice-class-items.ensures c.loop-class-test.true c.class-item.is (c.loop-class.invariant steps are) (c.in_ok-add_transition.ensures steps are)

pub returns : goal.returns
returns c = λ steps are.
    classes_met_end c.args.size (coll (comps_of steps)) (comp_of c.args.read.now) c.args.classes.now (comps_of c.args.made.now) c.as_slice-class-items.result.now c.loop-class.class-index (comps_of c.loop-class.made) (omega (arith, c.loop-class-test.false)) (c.loop-class.invariant steps are)
