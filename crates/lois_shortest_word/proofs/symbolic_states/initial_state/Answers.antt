use Rattle.std.proofs.Common.{◌+◌, arith}
use Rattle.lois_base.specs.Data.{comps_of}
use Rattle.lois_base.specs.Tree.{tree, comp_of}
use Rattle.lois_algebra.specs.Gathered.{IsAmong, IsCompMember}
use Rattle.lois_deciders.proofs.Oracle.{some_is, none_is}
use Rattle.lois_deciders.proofs.OnlyAsked.{only_asked_then}
use Rattle.lois_relate.proofs.Parts.{comps_from, comps_are, no_comps_left, is_comp_of}
use Rattle.lois_shortest_word.specs.SymbolicStates.{IsInitialSymbolicState, HasNoInitialState}
use Rattle.lois_shortest_word.proofs.Firsts.{among_item}
use Rattle.lois_shortest_word.proofs.Starts.{begun_among, never_begins_more, never_begins_end}
use Rattle.lois_shortest_word.proofs.symbolic_states.initial_state.Goals as goal

pub begun_by-requires-clause-over : goal.begun_by-requires-clause-over
begun_by-requires-clause-over g c =
    record {
      levels = (is_comp_of c.as_slice-comp-items.result.now c.args.starts.now c.loop-comp.comp-index c.comp-item.result c.as_slice-comp-items.ensures c.loop-comp-test.true c.comp-item.is).fits c.args.size c.requires.over.levels;
      operators = (is_comp_of c.as_slice-comp-items.result.now c.args.starts.now c.loop-comp.comp-index c.comp-item.result c.as_slice-comp-items.ensures c.loop-comp-test.true c.comp-item.is).admits g.T.Structure.ordered c.requires.over.operators;
    }

pub returns-in-Some-clause-some : goal.returns-in-Some-clause-some
returns-in-Some-clause-some g c =
    let n = c.args.size in
    let u = c.args.under.now in
    let t = tree c.args.layer.now in
    let k = comp_of c.comp-item.result in
    begun_among n u t (IsCompMember k) (IsAmong (comps_of c.args.starts.now)) c.in-Some.stage (among_item c.as_slice-comp-items.result.now c.args.starts.now c.loop-comp.comp-index c.comp-item.result c.as_slice-comp-items.ensures c.loop-comp-test.true c.comp-item.is)
    (some_is (IsInitialSymbolicState n u (IsCompMember k) t) c.in_ok-stage.field-0 c.in-Some.stage c.in-Some.is c.in_ok-stage.ensures.some)

pub loop-comp-preserved : goal.loop-comp-preserved
loop-comp-preserved g c =
    let n = c.args.size in
    let u = c.args.under.now in
    let t = tree c.args.layer.now in
    let items = c.as_slice-comp-items.result.now in
    let i = c.loop-comp.comp-index in
    record {
      never = never_begins_more n u t (comps_from items i) (comps_from items (i + 1)) (comp_of c.comp-item.result) (HasNoInitialState n u (IsAmong (comps_of c.args.starts.now)) t) (comps_are items i c.comp-item.result c.loop-comp-test.true c.comp-item.is)
          (c.in_ok-stage.ensures.none (none_is c.in_ok-stage.field-0 c.in_default.is)) c.loop-comp.invariant.never;
      only_asked = only_asked_then (λ b. (goal.Decider-dyn g (b.vtable, b.value)).kind_of b.value) (λ b. (goal.Decider-dyn g (b.vtable, b.value)).questions b.value) c.args.chosen.now c.loop-comp.chosen c.begun_by.new.chosen c.loop-comp.invariant.only_asked c.begun_by.ensures.only_asked;
    }

pub returns-clause-none : goal.returns-clause-none
returns-clause-none g c = λ _.
    let items = c.as_slice-comp-items.result.now in
    let i = c.loop-comp.comp-index in
    never_begins_end c.args.size c.args.under.now (tree c.args.layer.now) (comps_from items i) (HasNoInitialState c.args.size c.args.under.now (IsAmong (comps_of c.args.starts.now)) (tree c.args.layer.now)) (no_comps_left items i (omega (arith, c.loop-comp-test.false))) c.loop-comp.invariant.never
