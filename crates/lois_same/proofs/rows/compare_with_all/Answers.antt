use Rattle.std.proofs.Common.{subst}
use Rattle.std.specs.List.{All}
use Rattle.std.proofs.lemmas.List.Elements.{All-more}
use Rattle.lois_answers.specs.CaseView.{case_of}
use Rattle.lois_answers.specs.Sound.{IsSoundCase}
use Rattle.lois_answers.specs.declared.results.Case.{Case}
use Rattle.lois_cases.proofs.Parted.{of_all}
use Rattle.lois_deciders.proofs.OnlyAsked.{only_asked_then}
use Rattle.lois_printer.proofs.Fitting.{holds_of_each}
use Rattle.lois_same.specs.Rows.{HaveSameLines, IsPairContrastOrNone}
use Rattle.lois_same.proofs.SameCases.{is_case_at, same_as_all}
use Rattle.lois_same.proofs.rows.compare_with_all.Goals as goal

pub compare_pair-requires-clause-second : goal.compare_pair-requires-clause-second
compare_pair-requires-clause-second g c =
    holds_of_each (IsSoundCase g.T.Structure.ordered c.args.size) case_of c.args.others.now c.as_slice-other-items.result.now c.loop-index.index c.other-item.result c.as_slice-other-items.ensures.items c.loop-index-test.true c.other-item.is c.requires.second

pub returns-in-Some-clause-contrast : goal.returns-in-Some-clause-contrast
returns-in-Some-clause-contrast g c =
    let x = c.other-item.result in (
      case_of x,
      is_case_at c.args.others.now c.as_slice-other-items.result.now c.loop-index.index x c.as_slice-other-items.ensures.items c.loop-index-test.true c.other-item.is,
      subst (IsPairContrastOrNone c.args.size (case_of c.args.case.now) (case_of x)) c.in-Some.is c.in_ok-found.ensures.contrast,
    )

pub loop-index-preserved : goal.loop-index-preserved
loop-index-preserved g c =
    let n = c.args.size in
    let k = case_of c.args.case.now in
    let x = c.other-item.result in
    let P : Case → Type 0 = λ y. HaveSameLines n k (case_of y) in
    record {
      sofar =
          All-more P c.as_slice-other-items.result.now c.loop-index.index x c.loop-index-test.true c.loop-index.invariant.sofar
          (subst P c.other-item.is (subst (IsPairContrastOrNone n k (case_of x)) c.in_default.is c.in_ok-found.ensures.contrast));
      only_asked = only_asked_then (λ d. (goal.Decider-dyn g (d.vtable, d.value)).kind_of d.value) (λ d. (goal.Decider-dyn g (d.vtable, d.value)).questions d.value) c.args.chosen.now c.loop-index.chosen c.compare_pair.new.chosen c.loop-index.invariant.only_asked c.compare_pair.ensures.only_asked;
    }

pub returns-clause-contrast : goal.returns-clause-contrast
returns-clause-contrast g c =
    let n = c.args.size in
    let k = case_of c.args.case.now in
    same_as_all n c.args.others.now k (subst (All (HaveSameLines n k)) c.as_slice-other-items.ensures.items (of_all case_of (HaveSameLines n k) c.as_slice-other-items.result.now c.loop-index.index c.loop-index-test.false c.loop-index.invariant.sofar))
