use Rattle.std.proofs.Common.{◌≡◌, ◌+◌, refl, sym, subst, arith}
use Rattle.std.specs.Prelude.{IsNone}
use Rattle.std.proofs.lemmas.Result.{IfOk-weaker}
use Rattle.lois_answers.specs.CaseView.{case_of}
use Rattle.lois_answers.specs.Sound.{IsSoundCase}
use Rattle.lois_deciders.proofs.OnlyAsked.{only_asked_then}
use Rattle.lois_deciders.proofs.Oracle.{some_is}
use Rattle.lois_printer.proofs.Fitting.{holds_of_each}
use Rattle.lois_ranks.specs.Ranks.{AreRanks}
use Rattle.lois_equal.specs.Differences.{AreBounded}
use Rattle.lois_equal.proofs.CaseLines.{holds_so_far, holds_of_all, first_here}
use Rattle.lois_languages.specs.Inclusions.{AreSuited, IsWithin, IsBeyond, IsExcessWord, IsFirstBeyond, IfBeyond, excess_of}
use Rattle.lois_languages.specs.declared.inclusions.Inclusion.TheVariants.{Beyond}
use Rattle.lois_languages.proofs.InclusionCases.{beyond_here}
use Rattle.lois_languages.proofs.inclusions.first_excess.Goals as goal

pub excess_in-requires-clause-sound : goal.excess_in-requires-clause-sound
excess_in-requires-clause-sound g c =
    holds_of_each (IsSoundCase g.T.Structure.ordered c.args.size) case_of c.args.cases.now c.as_slice-case-items.result.now c.loop-index.index c.case-item.result c.as_slice-case-items.ensures.items c.loop-index-test.true c.case-item.is c.requires.sound

pub excess_in-requires-clause-suited : goal.excess_in-requires-clause-suited
excess_in-requires-clause-suited g c =
    holds_of_each (AreSuited c.args.size c.args.first.now c.args.second.now) case_of c.args.cases.now c.as_slice-case-items.result.now c.loop-index.index c.case-item.result c.as_slice-case-items.ensures.items c.loop-index-test.true c.case-item.is c.requires.suited

pub loop-index-preserved : goal.loop-index-preserved
loop-index-preserved g c =
    let n = c.args.size in
    let a = c.args.first.now in
    let b = c.args.second.now in
    let x = c.case-item.result in
    record {
      sofar =
          holds_so_far (IsWithin n a b) case_of c.as_slice-case-items.result.now c.loop-index.index x c.loop-index-test.true c.case-item.is c.loop-index.invariant.sofar
          (c.in_ok-found.ensures.none (subst IsNone (sym c.in_default.is) refl));
      only_asked = only_asked_then (λ d. (goal.Decider-dyn g (d.vtable, d.value)).kind_of d.value) (λ d. (goal.Decider-dyn g (d.vtable, d.value)).questions d.value) c.args.chosen.now c.loop-index.chosen c.excess_in.new.chosen c.loop-index.invariant.only_asked c.excess_in.ensures.only_asked;
    }

pub returns-in-Some-clause-first : goal.returns-in-Some-clause-first
returns-in-Some-clause-first g c =
    let n = c.args.size in
    let a = c.args.first.now in
    let b = c.args.second.now in
    let x = c.case-item.result in
    let i = c.loop-index.index in
    let w = c.in-Some.word in
    IfOk-weaker c.beyond.result (λ r. r ≡ Beyond (i + 1) (excess_of w) a) _ (λ r e.
    subst (IsFirstBeyond n a b c.args.cases.now) (sym e)
    (first_here (IsWithin n a b) case_of (IsBeyond n a b (excess_of w) a) c.args.cases.now c.as_slice-case-items.result.now i (i + 1) x c.as_slice-case-items.ensures.items c.loop-index-test.true c.case-item.is refl c.loop-index.invariant.sofar
    (beyond_here n a b w (case_of x) (some_is (λ v. IsExcessWord n a b v (case_of x)) c.in_ok-found.found w c.in-Some.is c.in_ok-found.ensures.found)))) c.beyond.ensures

pub returns-clause-first : goal.returns-clause-first
returns-clause-first g c =
    holds_of_all (IsWithin c.args.size c.args.first.now c.args.second.now) case_of c.args.cases.now c.as_slice-case-items.result.now c.loop-index.index c.as_slice-case-items.ensures.items (omega (arith, c.loop-index-test.false)) c.loop-index.invariant.sofar

pub returns-in-Some-clause-usual : goal.returns-in-Some-clause-usual
returns-in-Some-clause-usual g c =
    let w = c.in-Some.word in
    IfOk-weaker c.beyond.result (λ r. r ≡ Beyond (c.loop-index.index + 1) (excess_of w) c.args.first.now) _ (λ r e.
    subst (IfBeyond (λ d. AreBounded g.T.Structure.ordered d.word)) (sym e) (some_is (λ v. AreBounded g.T.Structure.ordered v.letters) c.in_ok-found.found w c.in-Some.is c.in_ok-found.ensures.usual)) c.beyond.ensures

pub returns-in-Some-clause-ranked : goal.returns-in-Some-clause-ranked
returns-in-Some-clause-ranked g c =
    let w = c.in-Some.word in
    IfOk-weaker c.beyond.result (λ r. r ≡ Beyond (c.loop-index.index + 1) (excess_of w) c.args.first.now) _ (λ r e.
    subst (IfBeyond (λ d. AreRanks g.T.Structure.ordered d.sample)) (sym e) (some_is (λ v. AreRanks g.T.Structure.ordered v.sample) c.in_ok-found.found w c.in-Some.is c.in_ok-found.ensures.ranked)) c.beyond.ensures
