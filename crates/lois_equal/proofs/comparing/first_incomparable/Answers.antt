use Rattle.std.proofs.Common.{arith}
use Rattle.lois_answers.specs.CaseView.{case_of}
use Rattle.lois_answers.specs.Sound.{IsSoundCase}
use Rattle.lois_deciders.proofs.OnlyAsked.{only_asked_then}
use Rattle.lois_printer.proofs.Fitting.{holds_of_each}
use Rattle.lois_equal.specs.Comparing.{AreComparable, IsReason, number_of}
use Rattle.lois_equal.proofs.CaseLines.{holds_so_far, holds_of_all, first_here, reason_at, number_at, fit_at}
use Rattle.lois_equal.proofs.comparing.first_incomparable.Goals as goal

pub incomparable_in-requires : goal.incomparable_in-requires
incomparable_in-requires g c =
    holds_of_each (IsSoundCase g.T.Structure.ordered c.args.size) case_of c.args.cases.now c.as_slice-case-items.result.now c.loop-index.index c.case-item.result c.as_slice-case-items.ensures.items c.loop-index-test.true c.case-item.is c.requires

pub loop-index-preserved : goal.loop-index-preserved
loop-index-preserved g c =
    let n = c.args.size in
    let a = c.args.first.now in
    let b = c.args.second.now in
    let x = c.case-item.result in
    record {
      sofar =
          holds_so_far (AreComparable n a b) case_of c.as_slice-case-items.result.now c.loop-index.index x c.loop-index-test.true c.case-item.is c.loop-index.invariant.sofar
          (fit_at n a b (case_of x) c.in_ok-found.found c.in_default.is c.in_ok-found.ensures.reason);
      only_asked = only_asked_then (λ d. (goal.Decider-dyn g (d.vtable, d.value)).kind_of d.value) (λ d. (goal.Decider-dyn g (d.vtable, d.value)).questions d.value) c.args.chosen.now c.loop-index.chosen c.incomparable_in.new.chosen c.loop-index.invariant.only_asked c.incomparable_in.ensures.only_asked;
    }

pub returns-in-Some-clause-first : goal.returns-in-Some-clause-first
returns-in-Some-clause-first g c =
    let unfit = c.in-Some.unfit in
    let n = c.args.size in
    let a = c.args.first.now in
    let b = c.args.second.now in
    let x = c.case-item.result in
    first_here (AreComparable n a b) case_of (IsReason n a b unfit) c.args.cases.now c.as_slice-case-items.result.now c.loop-index.index (number_of unfit) x c.as_slice-case-items.ensures.items c.loop-index-test.true c.case-item.is
    (number_at (c.loop-index.index) c.in_ok-found.found unfit c.in-Some.is c.in_ok-found.ensures.number) c.loop-index.invariant.sofar (reason_at n a b (case_of x) c.in_ok-found.found unfit c.in-Some.is c.in_ok-found.ensures.reason)

pub returns-clause-first : goal.returns-clause-first
returns-clause-first g c =
    holds_of_all (AreComparable c.args.size c.args.first.now c.args.second.now) case_of c.args.cases.now c.as_slice-case-items.result.now c.loop-index.index c.as_slice-case-items.ensures.items (omega (arith, c.loop-index-test.false)) c.loop-index.invariant.sofar
