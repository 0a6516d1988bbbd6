use Rattle.std.proofs.Common.{◌+◌, map, take, drop, refl, subst, sym, arith}
use Rattle.std.specs.Prelude.{IsNone}
use Rattle.std.proofs.lemmas.List.Elements.{All-more}
use Rattle.lois_answers.specs.CaseView.{case_of}
use Rattle.lois_answers.specs.declared.results.Case.{Case}
use Rattle.lois_deciders.proofs.OnlyAsked.{only_asked_then}
use Rattle.lois_deciders.proofs.Oracle.{some_is}
use Rattle.lois_cases.specs.Cases.{CaseFits}
use Rattle.lois_cases.specs.Partitions.{ExcludeEachOther, IsCommonSample}
use Rattle.lois_cases.proofs.Parted.{parted_at, count_before, of_each, of_all}
use Rattle.lois_cases.proofs.partitions.find_meeting.Goals as goal

pub find_common_sample-requires-clause-second : goal.find_common_sample-requires-clause-second
find_common_sample-requires-clause-second g c =
    of_each case_of (CaseFits c.args.size) c.args.cases.now c.loop-index.index c.index-cases-index.result c.loop-index-test.true c.index-cases-index.is c.requires.cases

pub returns-in-Some-clause-meeting : goal.returns-in-Some-clause-meeting
returns-in-Some-clause-meeting g c =
    let xs = c.args.cases.now in
    let i = c.loop-index.index in
    let x = c.index-cases-index.result in
    record {
      before = map case_of (take i xs);
      here = case_of x;
      behind = map case_of (drop (i + 1) xs);
      among = parted_at case_of xs i x c.loop-index-test.true c.index-cases-index.is;
      index = count_before case_of xs i c.loop-index-test.true;
      sample = some_is (IsCommonSample c.args.size c.args.when.now x.when) c.in_ok-found.found c.in-Some.sample c.in-Some.is c.in_ok-found.ensures.sample;
    }

pub loop-index-preserved : goal.loop-index-preserved
loop-index-preserved g c =
    let x = c.index-cases-index.result in
    let P : Case → Type 0 = λ y. ExcludeEachOther c.args.size c.args.when.now (case_of y) in
    record {
      sofar =
          All-more P c.args.cases.now c.loop-index.index x c.loop-index-test.true c.loop-index.invariant.sofar
          (subst P c.index-cases-index.is (c.in_ok-found.ensures.none (subst IsNone (sym c.in_default.is) refl)));
      only_asked = only_asked_then (λ d. (goal.Decider-dyn g (d.vtable, d.value)).kind_of d.value) (λ d. (goal.Decider-dyn g (d.vtable, d.value)).questions d.value) c.args.chosen.now c.loop-index.chosen c.find_common_sample.new.chosen c.loop-index.invariant.only_asked c.find_common_sample.ensures.only_asked;
    }

pub returns-clause-meeting : goal.returns-clause-meeting
returns-clause-meeting g c =
    of_all case_of (ExcludeEachOther c.args.size c.args.when.now) c.args.cases.now c.loop-index.index (omega (arith, c.loop-index-test.false)) c.loop-index.invariant.sofar
