use Rattle.std.proofs.Common.{arith}
use Rattle.lois_base.specs.Data.{comps_of}
use Rattle.lois_base.specs.Tree.{comp_of}
use Rattle.lois_base.specs.Validity.{AdmitsComp}
use Rattle.lois_automata.specs.Projections.{IsProjectionOf}
use Rattle.lois_automata.proofs.Adding.{added_members}
use Rattle.lois_automata.proofs.Loops.{AddsOnes, ones_begin, ones_more, ones_end}
use Rattle.lois_automata.proofs.Shaping.{are_shaped}
use Rattle.lois_automata.proofs.projections.project_steps.Goals as goal

pub loop-comp-init : goal.loop-comp-init
loop-comp-init c = λ n. ones_begin (λ _. IsProjectionOf c.args.shape) (λ _. Unit {0}) n c.args.steps.now c.as_slice-comp-items.result.now c.new-made.result c.as_slice-comp-items.ensures c.new-made.ensures

pub loop-comp-preserved : goal.loop-comp-preserved
loop-comp-preserved c = λ n.
    let k = c.comp-item.result in
    ones_more (λ _. IsProjectionOf c.args.shape) (λ _. Unit {0}) n c.args.steps.now (λ o. AdmitsComp o (comp_of k)) c.as_slice-comp-items.result.now c.loop-comp.comp-index k (comps_of c.loop-comp.made) (comps_of c.add_projected.new.made) c.as_slice-comp-items.ensures c.loop-comp-test.true c.comp-item.is (λ o a. a.0) (c.loop-comp.invariant n) (c.in_ok-add_projected.ensures n)

pub returns-clause-members : goal.returns-clause-members
returns-clause-members c = λ n.
    let added : AddsOnes (λ _. IsProjectionOf c.args.shape) (λ _. Unit {0}) n c.args.steps.now (comps_of c.loop-comp.made) = ones_end (λ _. IsProjectionOf c.args.shape) (λ _. Unit {0}) n c.args.steps.now c.as_slice-comp-items.result.now c.loop-comp.comp-index (comps_of c.loop-comp.made) (omega (arith, c.loop-comp-test.false)) (c.loop-comp.invariant n) in
    are_shaped c.args.shape n (comps_of c.args.steps.now) (comps_of c.loop-comp.made) (added_members n _ _ _ _ (comps_of c.loop-comp.made) added)

pub returns-clause-levels : goal.returns-clause-levels
returns-clause-levels c = λ n f. (c.loop-comp.invariant n).levels f tt

pub returns-clause-operators : goal.returns-clause-operators
returns-clause-operators c = λ o a. (c.loop-comp.invariant 0).operators o (a, tt) tt
