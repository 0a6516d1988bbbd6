use Rattle.std.proofs.Common.{◌+◌, refl, sym, subst, arith}
use Rattle.std.specs.Prelude.{IsNone}
use Rattle.lois_answers.specs.CaseView.{case_of}
use Rattle.lois_answers.specs.Sound.{IsSoundCase}
use Rattle.lois_deciders.proofs.OnlyAsked.{only_asked_then}
use Rattle.lois_deciders.proofs.Oracle.{some_is}
use Rattle.lois_printer.proofs.Fitting.{holds_of_each}
use Rattle.lois_ranks.specs.Ranks.{AreRanks}
use Rattle.lois_equal.specs.Differences.{AreBounded}
use Rattle.lois_equal.proofs.CaseLines.{holds_so_far, holds_of_all, first_here}
use Rattle.lois_languages.specs.Faults.{HasAutomaton}
use Rattle.lois_languages.specs.Witnesses.{AcceptsNone, AcceptsShortest}
use Rattle.lois_languages.proofs.witnesses.first_word.Goals as goal

pub word_in-requires-clause-sound : goal.word_in-requires-clause-sound
word_in-requires-clause-sound g c =
    holds_of_each (IsSoundCase g.T.Structure.ordered c.args.size) case_of c.args.cases.now c.as_slice-case-items.result.now c.loop-index.index c.case-item.result c.as_slice-case-items.ensures.items c.loop-index-test.true c.case-item.is c.requires.sound

pub word_in-requires-clause-automaton : goal.word_in-requires-clause-automaton
word_in-requires-clause-automaton g c =
    holds_of_each (HasAutomaton c.args.size c.args.name.now) case_of c.args.cases.now c.as_slice-case-items.result.now c.loop-index.index c.case-item.result c.as_slice-case-items.ensures.items c.loop-index-test.true c.case-item.is c.requires.automata

pub loop-index-preserved : goal.loop-index-preserved
loop-index-preserved g c =
    let n = c.args.size in
    let a = c.args.name.now in
    let x = c.case-item.result in
    record {
      sofar =
          holds_so_far (AcceptsNone n a) case_of c.as_slice-case-items.result.now c.loop-index.index x c.loop-index-test.true c.case-item.is c.loop-index.invariant.sofar
          (c.in_ok-found.ensures.none (subst IsNone (sym c.in_default.is) refl));
      only_asked = only_asked_then (λ d. (goal.Decider-dyn g (d.vtable, d.value)).kind_of d.value) (λ d. (goal.Decider-dyn g (d.vtable, d.value)).questions d.value) c.args.chosen.now c.loop-index.chosen c.word_in.new.chosen c.loop-index.invariant.only_asked c.word_in.ensures.only_asked;
    }

pub returns-in-Some-clause-first : goal.returns-in-Some-clause-first
returns-in-Some-clause-first g c =
    let n = c.args.size in
    let a = c.args.name.now in
    let x = c.case-item.result in
    let i = c.loop-index.index in
    let w = c.in-Some.word in
    first_here (AcceptsNone n a) case_of (AcceptsShortest n a w) c.args.cases.now c.as_slice-case-items.result.now i (i + 1) x c.as_slice-case-items.ensures.items c.loop-index-test.true c.case-item.is refl c.loop-index.invariant.sofar
    (some_is (λ v. AcceptsShortest n a v (case_of x)) c.in_ok-found.found w c.in-Some.is c.in_ok-found.ensures.found)

pub returns-clause-first : goal.returns-clause-first
returns-clause-first g c =
    holds_of_all (AcceptsNone c.args.size c.args.name.now) case_of c.args.cases.now c.as_slice-case-items.result.now c.loop-index.index c.as_slice-case-items.ensures.items (omega (arith, c.loop-index-test.false)) c.loop-index.invariant.sofar

pub returns-in-Some-clause-usual : goal.returns-in-Some-clause-usual
returns-in-Some-clause-usual g c =
    some_is (λ v. AreBounded g.T.Structure.ordered v.letters) c.in_ok-found.found c.in-Some.word c.in-Some.is c.in_ok-found.ensures.usual

pub returns-in-Some-clause-ranked : goal.returns-in-Some-clause-ranked
returns-in-Some-clause-ranked g c =
    some_is (λ v. AreRanks g.T.Structure.ordered v.sample) c.in_ok-found.found c.in-Some.word c.in-Some.is c.in_ok-found.ensures.ranked
