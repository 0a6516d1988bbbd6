use Rattle.std.proofs.Common.{◌+◌, Bool, subst, arith}
use Rattle.lois_base.specs.Data.{comps_of}
use Rattle.lois_base.specs.Tree.{tree, comp_of}
use Rattle.lois_base.specs.Validity.{AdmitsTerm, AdmitsComp, HasBoundedWidths, CompHasBoundedWidths}
use Rattle.lois_algebra.specs.Gathered.{IsAmong, IsCompMember}
use Rattle.lois_deciders.proofs.Oracle.{some_is, none_is}
use Rattle.lois_deciders.proofs.OnlyAsked.{only_asked_nothing, only_asked_then}
use Rattle.lois_relate.proofs.Parts.{comps_from, comps_are, no_comps_left, is_comp_of}
use Rattle.lois_shortest_word.specs.Steps.{IsSymbolicStep, NeverAdvances}
use Rattle.lois_shortest_word.proofs.Firsts.{among_item}
use Rattle.lois_shortest_word.proofs.Advances.{taken_among, never_goes_more, never_goes_end}
use Rattle.lois_shortest_word.proofs.steps.step_from.Goals as goal

pub loop-comp-init : goal.loop-comp-init
loop-comp-init g c = record {
  never = λ h. subst (λ z. NeverAdvances c.args.size c.args.stage.now (IsAmong (comps_of z)) (tree c.args.layer.now)) c.as_slice-comp-items.ensures h;
  only_asked = only_asked_nothing (λ b. (goal.Decider-dyn g (b.vtable, b.value)).kind_of b.value) (λ b. (goal.Decider-dyn g (b.vtable, b.value)).questions b.value) c.args.chosen.now;
}

pub step_by-requires-clause-over : goal.step_by-requires-clause-over
step_by-requires-clause-over g c =
    record {
      levels = (is_comp_of c.as_slice-comp-items.result.now c.args.steps.now c.loop-comp.comp-index c.comp-item.result c.as_slice-comp-items.ensures c.loop-comp-test.true c.comp-item.is).fits c.args.size c.requires.over.levels;
      operators = (is_comp_of c.as_slice-comp-items.result.now c.args.steps.now c.loop-comp.comp-index c.comp-item.result c.as_slice-comp-items.ensures c.loop-comp-test.true c.comp-item.is).admits g.T.Structure.ordered c.requires.over.operators;
    }

pub returns-in-Some-clause-some : goal.returns-in-Some-clause-some
returns-in-Some-clause-some g c =
    let n = c.args.size in
    let s = c.args.stage.now in
    let t = tree c.args.layer.now in
    let k = comp_of c.comp-item.result in
    taken_among n s t (IsCompMember k) (IsAmong (comps_of c.args.steps.now)) c.in-Some.step (among_item c.as_slice-comp-items.result.now c.args.steps.now c.loop-comp.comp-index c.comp-item.result c.as_slice-comp-items.ensures c.loop-comp-test.true c.comp-item.is)
    (some_is (IsSymbolicStep n s (IsCompMember k) t) c.in_ok-step.field-0 c.in-Some.step c.in-Some.is c.in_ok-step.ensures.some)

pub returns-in-Some-clause-operators : goal.returns-in-Some-clause-operators
returns-in-Some-clause-operators g c = λ o h.
    let k = is_comp_of c.as_slice-comp-items.result.now c.args.steps.now c.loop-comp.comp-index c.comp-item.result c.as_slice-comp-items.ensures c.loop-comp-test.true c.comp-item.is in
    some_is (λ r. (o : Bool) → AdmitsComp o (comp_of c.comp-item.result) → AdmitsTerm o (tree r.letter)) c.in_ok-step.field-0 c.in-Some.step c.in-Some.is c.in_ok-step.ensures.operators o (k.admits o h)

pub returns-in-Some-clause-widths : goal.returns-in-Some-clause-widths
returns-in-Some-clause-widths g c = λ h.
    let k = is_comp_of c.as_slice-comp-items.result.now c.args.steps.now c.loop-comp.comp-index c.comp-item.result c.as_slice-comp-items.ensures c.loop-comp-test.true c.comp-item.is in
    some_is (λ r. CompHasBoundedWidths (comp_of c.comp-item.result) → HasBoundedWidths (tree r.letter)) c.in_ok-step.field-0 c.in-Some.step c.in-Some.is c.in_ok-step.ensures.widths (k.widths h)

pub loop-comp-preserved : goal.loop-comp-preserved
loop-comp-preserved g c =
    let n = c.args.size in
    let s = c.args.stage.now in
    let t = tree c.args.layer.now in
    let items = c.as_slice-comp-items.result.now in
    let i = c.loop-comp.comp-index in
    record {
      never = never_goes_more n s t (comps_from items i) (comps_from items (i + 1)) (comp_of c.comp-item.result) (NeverAdvances n s (IsAmong (comps_of c.args.steps.now)) t) (comps_are items i c.comp-item.result c.loop-comp-test.true c.comp-item.is)
          (c.in_ok-step.ensures.none (none_is c.in_ok-step.field-0 c.in_default.is)) c.loop-comp.invariant.never;
      only_asked = only_asked_then (λ b. (goal.Decider-dyn g (b.vtable, b.value)).kind_of b.value) (λ b. (goal.Decider-dyn g (b.vtable, b.value)).questions b.value) c.args.chosen.now c.loop-comp.chosen c.step_by.new.chosen c.loop-comp.invariant.only_asked c.step_by.ensures.only_asked;
    }

pub returns-clause-none : goal.returns-clause-none
returns-clause-none g c = λ _.
    let items = c.as_slice-comp-items.result.now in
    let i = c.loop-comp.comp-index in
    never_goes_end c.args.size c.args.stage.now (tree c.args.layer.now) (comps_from items i) (NeverAdvances c.args.size c.args.stage.now (IsAmong (comps_of c.args.steps.now)) (tree c.args.layer.now)) (no_comps_left items i (omega (arith, c.loop-comp-test.false))) c.loop-comp.invariant.never
