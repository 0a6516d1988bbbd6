use Rattle.std.proofs.Common.{◌+◌, subst, arith}
use Rattle.lois_answers.specs.CaseView.{case_of}
use Rattle.lois_answers.specs.Sound.{IsSoundCase}
use Rattle.lois_deciders.proofs.OnlyAsked.{only_asked_then}
use Rattle.lois_printer.proofs.Fitting.{holds_of_each}
use Rattle.lois_equal.proofs.CaseLines.{holds_so_far, holds_of_all, first_here}
use Rattle.lois_languages.specs.Faults.{HasAutomaton, HasFaultNumber, fault_number}
use Rattle.lois_languages.specs.Witnesses.{IsWordReason, IsWordReasonOrNone}
use Rattle.lois_languages.proofs.witnesses.first_without_automaton.Goals as goal

pub automaton_fault_in-requires : goal.automaton_fault_in-requires
automaton_fault_in-requires g c =
    holds_of_each (IsSoundCase g.T.Structure.ordered c.args.size) case_of c.args.cases.now c.as_slice-case-items.result.now c.loop-index.index c.case-item.result c.as_slice-case-items.ensures.items c.loop-index-test.true c.case-item.is c.requires

pub loop-index-preserved : goal.loop-index-preserved
loop-index-preserved g c =
    let n = c.args.size in
    let a = c.args.name.now in
    let x = c.case-item.result in
    record {
      sofar =
          holds_so_far (HasAutomaton n a) case_of c.as_slice-case-items.result.now c.loop-index.index x c.loop-index-test.true c.case-item.is c.loop-index.invariant.sofar
          (subst (IsWordReasonOrNone n a (case_of x)) c.in_default.is c.in_ok-found.ensures.reason);
      only_asked = only_asked_then (λ d. (goal.Decider-dyn g (d.vtable, d.value)).kind_of d.value) (λ d. (goal.Decider-dyn g (d.vtable, d.value)).questions d.value) c.args.chosen.now c.loop-index.chosen c.automaton_fault_in.new.chosen c.loop-index.invariant.only_asked c.automaton_fault_in.ensures.only_asked;
    }

pub returns-in-Some-clause-first : goal.returns-in-Some-clause-first
returns-in-Some-clause-first g c =
    let fault = c.in-Some.fault in
    let n = c.args.size in
    let a = c.args.name.now in
    let x = c.case-item.result in
    first_here (HasAutomaton n a) case_of (IsWordReason n a fault) c.args.cases.now c.as_slice-case-items.result.now c.loop-index.index (fault_number fault) x c.as_slice-case-items.ensures.items c.loop-index-test.true c.case-item.is
    (subst (HasFaultNumber (c.loop-index.index + 1)) c.in-Some.is c.in_ok-found.ensures.number) c.loop-index.invariant.sofar (subst (IsWordReasonOrNone n a (case_of x)) c.in-Some.is c.in_ok-found.ensures.reason)

pub returns-clause-first : goal.returns-clause-first
returns-clause-first g c =
    holds_of_all (HasAutomaton c.args.size c.args.name.now) case_of c.args.cases.now c.as_slice-case-items.result.now c.loop-index.index c.as_slice-case-items.ensures.items (omega (arith, c.loop-index-test.false)) c.loop-index.invariant.sofar
