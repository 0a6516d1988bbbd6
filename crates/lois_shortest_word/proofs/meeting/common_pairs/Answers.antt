use Rattle.std.proofs.Common.{arith}
use Rattle.lois_base.specs.Data.{comps_of}
use Rattle.lois_base.specs.Tree.{tree, comp_of}
use Rattle.lois_base.specs.Validity.{AdmitsTerm, AdmitsComp}
use Rattle.lois_relate.proofs.Parts.{is_comp_of}
use Rattle.lois_automata.proofs.Adding.{added_members}
use Rattle.lois_automata.proofs.Loops.{AddsOnes, ones_begin, ones_more, ones_end}
use Rattle.lois_shortest_word.specs.Pairs.{IsCommon}
use Rattle.lois_shortest_word.proofs.CommonPairs.{are_common}
use Rattle.lois_shortest_word.proofs.meeting.common_pairs.Goals as goal

pub add_common-requires-clause-over : goal.add_common-requires-clause-over
add_common-requires-clause-over g c =
    let k = is_comp_of c.as_slice-comp-items.result.now c.args.pairs.now c.loop-comp.comp-index c.comp-item.result c.as_slice-comp-items.ensures c.loop-comp-test.true c.comp-item.is in
    record {
      levels = k.fits c.args.size c.requires.over.levels;
      operators = k.admits g.T.Structure.ordered c.requires.over.operators;
    }

pub loop-comp-init : goal.loop-comp-init
loop-comp-init g c =
    let one = tree c.args.one.now in
    let other = tree c.args.other.now in
    ones_begin (IsCommon one other) (λ o. AdmitsTerm o one × AdmitsTerm o other) c.args.size c.args.pairs.now c.as_slice-comp-items.result.now c.new-made.result c.as_slice-comp-items.ensures c.new-made.ensures

pub loop-comp-preserved : goal.loop-comp-preserved
loop-comp-preserved g c =
    let one = tree c.args.one.now in
    let other = tree c.args.other.now in
    let k = c.comp-item.result in
    ones_more (IsCommon one other) (λ o. AdmitsTerm o one × AdmitsTerm o other) c.args.size c.args.pairs.now (λ o. AdmitsComp o (comp_of k) × (AdmitsTerm o one × AdmitsTerm o other)) c.as_slice-comp-items.result.now c.loop-comp.comp-index k (comps_of c.loop-comp.made) (comps_of c.add_common.new.made) c.as_slice-comp-items.ensures c.loop-comp-test.true c.comp-item.is (λ o a. a) c.loop-comp.invariant c.in_ok-add_common.ensures

pub returns-clause-members : goal.returns-clause-members
returns-clause-members g c =
    let n = c.args.size in
    let one = tree c.args.one.now in
    let other = tree c.args.other.now in
    let made = comps_of c.loop-comp.made in
    let added : AddsOnes (IsCommon one other) (λ o. AdmitsTerm o one × AdmitsTerm o other) n c.args.pairs.now made = ones_end (IsCommon one other) (λ o. AdmitsTerm o one × AdmitsTerm o other) n c.args.pairs.now c.as_slice-comp-items.result.now c.loop-comp.comp-index made (omega (arith, c.loop-comp-test.false)) c.loop-comp.invariant in
    are_common n (comps_of c.args.pairs.now) made one other (added_members n _ _ _ _ made added)

pub returns-clause-levels : goal.returns-clause-levels
returns-clause-levels g c = c.loop-comp.invariant.levels c.requires.over.levels tt

pub returns-clause-operators : goal.returns-clause-operators
returns-clause-operators g c = c.loop-comp.invariant.operators g.T.Structure.ordered (c.requires.over.operators, (c.requires.first.operators, c.requires.second.operators)) tt
