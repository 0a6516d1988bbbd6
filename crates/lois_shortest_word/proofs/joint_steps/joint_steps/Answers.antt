use Rattle.std.proofs.Common.{Bool, List, sym, subst, arith}
use Rattle.lois_base.specs.Atom.{Atom}
use Rattle.lois_base.specs.Data.{coll, comps_of, no_comps}
use Rattle.lois_base.specs.Fits.{CompFits, ItemsFit}
use Rattle.lois_base.specs.Tree.{comp_of}
use Rattle.lois_base.specs.Validity.{AdmitsComp, AdmitsItems, ItemsHaveBoundedWidths}
use Rattle.lois_base.specs.Values.{PointValue, point}
use Rattle.lois_relate.proofs.Parts.{comps_from, is_comp_of}
use Rattle.lois_automata.proofs.Adding.{added_members}
use Rattle.lois_shortest_word.specs.Pairs.{IsJointStep}
use Rattle.lois_shortest_word.proofs.Each.{EachSoFar, AddsEach, each_begin, each_more, each_end}
use Rattle.lois_shortest_word.proofs.StepsFrom.{are_joint_steps}
use Rattle.lois_shortest_word.proofs.joint_steps.joint_steps.Goals as goal

pub add_joint_steps-requires-clause-over : goal.add_joint_steps-requires-clause-over
add_joint_steps-requires-clause-over g c =
    let k = is_comp_of c.as_slice-comp-items.result.now c.args.pairs.now c.loop-comp.comp-index c.comp-item.result c.as_slice-comp-items.ensures c.loop-comp-test.true c.comp-item.is in
    record {
      levels = k.fits c.args.size c.requires.over.levels;
      operators = k.admits g.T.Structure.ordered c.requires.over.operators;
    }

pub loop-comp-init : goal.loop-comp-init
loop-comp-init g c =
    let n = c.args.size in
    let one = comps_of c.args.one.now in
    let other = comps_of c.args.other.now in
    let pairs = c.args.pairs.now in
    let items = c.as_slice-comp-items.result.now in
    let R : List Atom → PointValue → PointValue → Type 0 = λ d. IsJointStep (point (coll one) d) (point (coll other) d) in
    let A : Bool → Type 0 = λ o. AdmitsItems o (comps_of pairs) × (AdmitsItems o one × AdmitsItems o other) in
    let U : Type 0 = ItemsHaveBoundedWidths one × ItemsHaveBoundedWidths other in
    subst (λ z. EachSoFar R n pairs (ItemsFit n (comps_of pairs)) A U no_comps (comps_from items 0) (comps_of z)) (sym c.new-made.ensures) (each_begin R n pairs (ItemsFit n (comps_of pairs)) A U no_comps items c.as_slice-comp-items.ensures)

pub loop-comp-preserved : goal.loop-comp-preserved
loop-comp-preserved g c =
    let n = c.args.size in
    let one = comps_of c.args.one.now in
    let other = comps_of c.args.other.now in
    let pairs = c.args.pairs.now in
    let items = c.as_slice-comp-items.result.now in
    let i = c.loop-comp.comp-index in
    let k = c.comp-item.result in
    let of = is_comp_of items pairs i k c.as_slice-comp-items.ensures c.loop-comp-test.true c.comp-item.is in
    each_more (λ d. IsJointStep (point (coll one) d) (point (coll other) d)) n pairs (ItemsFit n (comps_of pairs)) (λ o. AdmitsItems o (comps_of pairs) × (AdmitsItems o one × AdmitsItems o other)) (ItemsHaveBoundedWidths one × ItemsHaveBoundedWidths other) no_comps
    (CompFits n (comp_of k)) (λ o. AdmitsComp o (comp_of k) × (AdmitsItems o one × AdmitsItems o other)) (ItemsHaveBoundedWidths one × ItemsHaveBoundedWidths other) items i k (comps_of c.loop-comp.made) (comps_of c.add_joint_steps.new.made) c.loop-comp-test.true c.comp-item.is
    (of.fits n) (λ o a. (of.admits o a.0, a.1)) (λ u. u) c.loop-comp.invariant c.in_ok-add_joint_steps.ensures

pub returns-clause-members : goal.returns-clause-members
returns-clause-members g c =
    let n = c.args.size in
    let one = comps_of c.args.one.now in
    let other = comps_of c.args.other.now in
    let pairs = c.args.pairs.now in
    let made = comps_of c.loop-comp.made in
    let R : List Atom → PointValue → PointValue → Type 0 = λ d. IsJointStep (point (coll one) d) (point (coll other) d) in
    let A : Bool → Type 0 = λ o. AdmitsItems o (comps_of pairs) × (AdmitsItems o one × AdmitsItems o other) in
    let U : Type 0 = ItemsHaveBoundedWidths one × ItemsHaveBoundedWidths other in
    let added : AddsEach R n pairs (ItemsFit n (comps_of pairs)) A U no_comps made = each_end R n pairs (ItemsFit n (comps_of pairs)) A U no_comps c.as_slice-comp-items.result.now c.loop-comp.comp-index made (omega (arith, c.loop-comp-test.false)) c.loop-comp.invariant in
    are_joint_steps n (comps_of pairs) made (coll one) (coll other) (added_members n _ _ _ _ made added)

pub returns-clause-levels : goal.returns-clause-levels
returns-clause-levels g c = c.loop-comp.invariant.levels c.requires.over.levels tt

pub returns-clause-operators : goal.returns-clause-operators
returns-clause-operators g c = λ o a b d. c.loop-comp.invariant.operators o (a, (b, d)) tt

pub returns-clause-widths : goal.returns-clause-widths
returns-clause-widths g c = λ u v. c.loop-comp.invariant.widths (u, v) tt
