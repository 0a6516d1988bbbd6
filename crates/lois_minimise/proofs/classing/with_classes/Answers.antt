use Rattle.std.proofs.Common.{◌+◌, ap, arith}
use Rattle.lois_base.specs.Data.{coll, comps_of}
use Rattle.lois_base.specs.Tree.{comp_of}
use Rattle.lois_relate.proofs.Parts.{comps_from, comps_are, no_comps_left, is_comp_of}
use Rattle.lois_minimise.proofs.ClassTerms.{classes_begin, classes_more, classes_end}
use Rattle.lois_minimise.proofs.classing.with_classes.Goals as goal

pub add_class-requires-clause-over : goal.add_class-requires-clause-over
add_class-requires-clause-over g c =
    let k = is_comp_of c.as_slice-comp-items.result.now c.args.nodes.now c.loop-comp.comp-index c.comp-item.result c.as_slice-comp-items.ensures c.loop-comp-test.true c.comp-item.is in
    record {
      levels = k.fits c.args.size c.requires.nodes.levels;
      operators = k.admits g.T.Structure.ordered c.requires.nodes.operators;
    }

pub loop-comp-init : goal.loop-comp-init
loop-comp-init g c = classes_begin c.args.size (comps_of c.args.nodes.now) (coll (comps_of c.args.alike.now)) (comps_from c.as_slice-comp-items.result.now 0) (comps_of c.new-classes.result) (ap comps_of c.as_slice-comp-items.ensures) (ap comps_of c.new-classes.ensures)

pub loop-comp-preserved : goal.loop-comp-preserved
loop-comp-preserved g c =
    let n = c.args.size in
    let k = c.comp-item.result in
    let items = c.as_slice-comp-items.result.now in
    let i = c.loop-comp.comp-index in
    let nodes = c.args.nodes.now in
    let alike = coll (comps_of c.args.alike.now) in
    let made = comps_of c.loop-comp.classes in
    let longer = comps_of c.add_class.new.classes in
    let of = is_comp_of items nodes i k c.as_slice-comp-items.ensures c.loop-comp-test.true c.comp-item.is in
    classes_more n (comps_of nodes) alike (comps_from items i) (comps_from items (i + 1)) made longer (comp_of k) (comps_are items i k c.loop-comp-test.true c.comp-item.is) (of.fits n) of.admits of.widths c.in_ok-add_class.ensures c.loop-comp.invariant

pub returns-clause-classed : goal.returns-clause-classed
returns-clause-classed g c =
    let items = c.as_slice-comp-items.result.now in
    let i = c.loop-comp.comp-index in
    classes_end c.args.size (comps_of c.args.nodes.now) (coll (comps_of c.args.alike.now)) (comps_from items i) (comps_of c.loop-comp.classes) (no_comps_left items i (omega (arith, c.loop-comp-test.false))) c.loop-comp.invariant

pub returns-clause-levels : goal.returns-clause-levels
returns-clause-levels g c = c.loop-comp.invariant.0.levels c.requires.nodes.levels tt

pub returns-clause-operators : goal.returns-clause-operators
returns-clause-operators g c = λ o a b. c.loop-comp.invariant.0.operators o (a, b) tt

pub returns-clause-widths : goal.returns-clause-widths
returns-clause-widths g c = λ u v. c.loop-comp.invariant.0.widths (u, v) tt
