use Rattle.std.proofs.Common.{refl, arith}
use Rattle.lois_base.specs.Data.{comps_of}
use Rattle.lois_base.specs.Tree.{tree, comp_of}
use Rattle.lois_base.specs.Validity.{AdmitsTerm, AdmitsComp}
use Rattle.lois_relate.proofs.Parts.{is_comp_of}
use Rattle.lois_automata.proofs.Adding.{added_members}
use Rattle.lois_automata.proofs.Loops.{AddsOnes, ones_begin, ones_more, ones_end}
use Rattle.lois_shortest_word.specs.Layers.{IsSourceTo}
use Rattle.lois_shortest_word.proofs.Sources.{are_sources}
use Rattle.lois_shortest_word.proofs.layers.sources.Goals as goal

pub add_source-requires-clause-over : goal.add_source-requires-clause-over
add_source-requires-clause-over g c =
    let k = is_comp_of c.as_slice-comp-items.result.now c.args.steps.now c.loop-comp.comp-index c.comp-item.result c.as_slice-comp-items.ensures c.loop-comp-test.true c.comp-item.is in
    record {
      levels = k.fits c.args.size c.requires.over.levels;
      operators = k.admits g.T.Structure.ordered c.requires.over.operators;
    }

pub loop-comp-init : goal.loop-comp-init
loop-comp-init g c =
    let layer = tree c.args.layer.now in
    ones_begin (IsSourceTo layer) (λ o. AdmitsTerm o layer) c.args.size c.args.steps.now c.as_slice-comp-items.result.now c.new-made.result c.as_slice-comp-items.ensures c.new-made.ensures

pub loop-comp-preserved : goal.loop-comp-preserved
loop-comp-preserved g c =
    let layer = tree c.args.layer.now in
    let k = c.comp-item.result in
    ones_more (IsSourceTo layer) (λ o. AdmitsTerm o layer) c.args.size c.args.steps.now (λ o. AdmitsComp o (comp_of k) × AdmitsTerm o layer) c.as_slice-comp-items.result.now c.loop-comp.comp-index k (comps_of c.loop-comp.made) (comps_of c.add_source.new.made) c.as_slice-comp-items.ensures c.loop-comp-test.true c.comp-item.is (λ o a. a) c.loop-comp.invariant c.in_ok-add_source.ensures

pub returns-clause-members : goal.returns-clause-members
returns-clause-members g c =
    let n = c.args.size in
    let layer = tree c.args.layer.now in
    let made = comps_of c.loop-comp.made in
    let added : AddsOnes (IsSourceTo layer) (λ o. AdmitsTerm o layer) n c.args.steps.now made = ones_end (IsSourceTo layer) (λ o. AdmitsTerm o layer) n c.args.steps.now c.as_slice-comp-items.result.now c.loop-comp.comp-index made (omega (arith, c.loop-comp-test.false)) c.loop-comp.invariant in
    are_sources n (comps_of c.args.steps.now) made layer (added_members n _ _ _ _ made added)

pub returns-clause-readable : goal.returns-clause-readable
returns-clause-readable g c = record {
  set = (comps_of c.loop-comp.made, refl);
  levels = c.loop-comp.invariant.levels c.requires.over.levels tt;
  operators = c.loop-comp.invariant.operators g.T.Structure.ordered (c.requires.over.operators, c.requires.layer.operators) tt;
}
