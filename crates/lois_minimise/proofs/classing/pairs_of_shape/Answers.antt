use Rattle.std.proofs.Common.{arith, subst}
use Rattle.lois_base.specs.Data.{coll, comps_of}
use Rattle.lois_base.specs.Tree.{comp_of}
use Rattle.lois_base.specs.Validity.{AdmitsComp}
use Rattle.lois_base.specs.Values.{IsSame}
use Rattle.lois_minimise.specs.Classes.{HasFirstOfShape, ArePairsOfShape}
use Rattle.lois_minimise.proofs.Matching.{MatchesOnes, ones_met_begin, ones_met_more, ones_met_end}
use Rattle.lois_minimise.proofs.OfShape.{are_pairs_of_shape}
use Rattle.lois_minimise.proofs.classing.pairs_of_shape.Goals as goal

pub loop-comp-init : goal.loop-comp-init
loop-comp-init c = λ n. ones_met_begin (λ _. IsSame) (λ _. HasFirstOfShape c.shape-wanted.result) (λ _. Unit {0}) n c.args.pairs.now c.as_slice-comp-items.result.now c.new-made.result c.as_slice-comp-items.ensures c.new-made.ensures

pub loop-comp-preserved : goal.loop-comp-preserved
loop-comp-preserved c = λ n.
    let k = c.comp-item.result in
    ones_met_more (λ _. IsSame) (λ _. HasFirstOfShape c.shape-wanted.result) (λ _. Unit {0}) n c.args.pairs.now (λ o. AdmitsComp o (comp_of k)) c.as_slice-comp-items.result.now c.loop-comp.comp-index k (comps_of c.loop-comp.made) (comps_of c.add_of_shape.new.made) c.as_slice-comp-items.ensures c.loop-comp-test.true c.comp-item.is (λ o a. a.0) (c.loop-comp.invariant n) (c.in_ok-add_of_shape.ensures n)

pub returns-clause-members : goal.returns-clause-members
returns-clause-members c = λ n.
    let made = comps_of c.loop-comp.made in
    let s = c.shape-wanted.result in
    let all : MatchesOnes (λ _. IsSame) (λ _. HasFirstOfShape s) (λ _. Unit {0}) n c.args.pairs.now made = ones_met_end (λ _. IsSame) (λ _. HasFirstOfShape s) (λ _. Unit {0}) n c.args.pairs.now c.as_slice-comp-items.result.now c.loop-comp.comp-index made (omega (arith, c.loop-comp-test.false)) (c.loop-comp.invariant n) in
    subst (λ z. ArePairsOfShape n z (coll (comps_of c.args.pairs.now)) (coll made)) c.shape-wanted.ensures.exact (are_pairs_of_shape n s c.args.pairs.now made all)

pub returns-clause-levels : goal.returns-clause-levels
returns-clause-levels c = λ n f. (c.loop-comp.invariant n).levels f tt

pub returns-clause-operators : goal.returns-clause-operators
returns-clause-operators c = λ o a. (c.loop-comp.invariant 0).operators o (a, tt) tt

pub returns-clause-widths : goal.returns-clause-widths
returns-clause-widths c = λ u. (c.loop-comp.invariant 0).widths u tt
