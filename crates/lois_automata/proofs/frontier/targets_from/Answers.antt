use Rattle.std.proofs.Common.{arith}
use Rattle.lois_base.specs.Data.{comps_of}
use Rattle.lois_base.specs.Tree.{tree, comp_of}
use Rattle.lois_base.specs.Validity.{AdmitsTerm, AdmitsComp}
use Rattle.lois_relate.proofs.Parts.{is_comp_of}
use Rattle.lois_automata.specs.Built.{IsLedFrom}
use Rattle.lois_automata.proofs.Adding.{added_members}
use Rattle.lois_automata.proofs.Loops.{AddsOnes, ones_begin, ones_more, ones_end}
use Rattle.lois_automata.proofs.Targets.{are_targets}
use Rattle.lois_automata.proofs.frontier.targets_from.Goals as goal

pub add_target-requires-clause-over : goal.add_target-requires-clause-over
add_target-requires-clause-over g c =
    let k = is_comp_of c.as_slice-comp-items.result.now c.args.moves.now c.loop-comp.comp-index c.comp-item.result c.as_slice-comp-items.ensures c.loop-comp-test.true c.comp-item.is in
    record {
      levels = k.fits c.args.size c.requires.over.levels;
      operators = k.admits g.T.Structure.ordered c.requires.over.operators;
    }

pub loop-comp-init : goal.loop-comp-init
loop-comp-init g c =
    let held = tree c.args.held.now in
    ones_begin (IsLedFrom held) (λ o. AdmitsTerm o held) c.args.size c.args.moves.now c.as_slice-comp-items.result.now c.new-targets.result c.as_slice-comp-items.ensures c.new-targets.ensures

pub loop-comp-preserved : goal.loop-comp-preserved
loop-comp-preserved g c =
    let held = tree c.args.held.now in
    let k = c.comp-item.result in
    ones_more (IsLedFrom held) (λ o. AdmitsTerm o held) c.args.size c.args.moves.now (λ o. AdmitsComp o (comp_of k) × AdmitsTerm o held) c.as_slice-comp-items.result.now c.loop-comp.comp-index k (comps_of c.loop-comp.targets) (comps_of c.add_target.new.targets) c.as_slice-comp-items.ensures c.loop-comp-test.true c.comp-item.is (λ o a. a) c.loop-comp.invariant c.in_ok-add_target.ensures

pub returns-clause-members : goal.returns-clause-members
returns-clause-members g c =
    let n = c.args.size in
    let held = tree c.args.held.now in
    let made = comps_of c.loop-comp.targets in
    let added : AddsOnes (IsLedFrom held) (λ o. AdmitsTerm o held) n c.args.moves.now made = ones_end (IsLedFrom held) (λ o. AdmitsTerm o held) n c.args.moves.now c.as_slice-comp-items.result.now c.loop-comp.comp-index made (omega (arith, c.loop-comp-test.false)) c.loop-comp.invariant in
    are_targets n (comps_of c.args.moves.now) made held (added_members n _ _ _ _ made added)

pub returns-clause-levels : goal.returns-clause-levels
returns-clause-levels g c = c.loop-comp.invariant.levels c.requires.over.levels tt

pub returns-clause-operators : goal.returns-clause-operators
returns-clause-operators g c = λ o a b. c.loop-comp.invariant.operators o (a, b) tt

pub returns-clause-widths : goal.returns-clause-widths
returns-clause-widths g c = λ u. c.loop-comp.invariant.widths u tt
