use Rattle.std.proofs.Common.{arith}
use Rattle.lois_base.specs.Data.{comps_of}
use Rattle.lois_base.specs.Tree.{comp_of}
use Rattle.lois_base.specs.Validity.{AdmitsComp}
use Rattle.lois_automata.proofs.Adding.{added_members}
use Rattle.lois_automata.proofs.Loops.{AddsOnes, ones_begin, ones_more, ones_end}
use Rattle.lois_minimise.specs.Classes.{IsTurned}
use Rattle.lois_minimise.proofs.Ordered.{are_made}
use Rattle.lois_minimise.proofs.ordering.turned.Goals as goal

pub loop-comp-init : goal.loop-comp-init
loop-comp-init c = λ n. ones_begin (λ _. IsTurned) (λ _. Unit {0}) n c.args.pairs.now c.as_slice-comp-items.result.now c.new-made.result c.as_slice-comp-items.ensures c.new-made.ensures

pub loop-comp-preserved : goal.loop-comp-preserved
loop-comp-preserved c = λ n.
    let k = c.comp-item.result in
    ones_more (λ _. IsTurned) (λ _. Unit {0}) n c.args.pairs.now (λ o. AdmitsComp o (comp_of k)) c.as_slice-comp-items.result.now c.loop-comp.comp-index k (comps_of c.loop-comp.made) (comps_of c.add_turned.new.made) c.as_slice-comp-items.ensures c.loop-comp-test.true c.comp-item.is (λ o a. a.0) (c.loop-comp.invariant n) (c.in_ok-add_turned.ensures n)

pub returns-clause-members : goal.returns-clause-members
returns-clause-members c = λ n.
    let made = comps_of c.loop-comp.made in
    let added : AddsOnes (λ _. IsTurned) (λ _. Unit {0}) n c.args.pairs.now made = ones_end (λ _. IsTurned) (λ _. Unit {0}) n c.args.pairs.now c.as_slice-comp-items.result.now c.loop-comp.comp-index made (omega (arith, c.loop-comp-test.false)) (c.loop-comp.invariant n) in
    are_made IsTurned n (comps_of c.args.pairs.now) made (added_members n _ _ _ _ made added)

pub returns-clause-levels : goal.returns-clause-levels
returns-clause-levels c = λ n f. (c.loop-comp.invariant n).levels f tt

pub returns-clause-operators : goal.returns-clause-operators
returns-clause-operators c = λ o a. (c.loop-comp.invariant 0).operators o (a, tt) tt

pub returns-clause-widths : goal.returns-clause-widths
returns-clause-widths c = λ u. (c.loop-comp.invariant 0).widths u tt
