use Rattle.std.proofs.Common.{subst}
use Rattle.std.specs.List.{All}
use Rattle.std.proofs.lemmas.List.Elements.{All-more}
use Rattle.lois_answers.specs.CaseView.{case_of}
use Rattle.lois_answers.specs.Sound.{IsSoundCase}
use Rattle.lois_answers.specs.declared.results.Case.{Case}
use Rattle.lois_cases.proofs.Parted.{of_all}
use Rattle.lois_deciders.proofs.OnlyAsked.{only_asked_then}
use Rattle.lois_printer.proofs.Fitting.{holds_of_each}
use Rattle.lois_same.specs.Rows.{HasSameLinesAsCases, IsRowContrastOrNone}
use Rattle.lois_same.proofs.SameCases.{is_case_at}
use Rattle.lois_same.proofs.rows.compare_cases.Goals as goal

pub compare_row-requires-clause-first : goal.compare_row-requires-clause-first
compare_row-requires-clause-first g c =
    holds_of_each (IsSoundCase g.T.Structure.ordered c.args.size) case_of c.args.cases.now c.as_slice-case-items.result.now c.loop-index.index c.case-item.result c.as_slice-case-items.ensures.items c.loop-index-test.true c.case-item.is c.requires.first

pub returns-in-Some-clause-contrast : goal.returns-in-Some-clause-contrast
returns-in-Some-clause-contrast g c =
    let x = c.case-item.result in (
      case_of x,
      is_case_at c.args.cases.now c.as_slice-case-items.result.now c.loop-index.index x c.as_slice-case-items.ensures.items c.loop-index-test.true c.case-item.is,
      subst (IsRowContrastOrNone c.args.size c.args.others.now (case_of x)) c.in-Some.is c.in_ok-found.ensures.contrast,
    )

pub loop-index-preserved : goal.loop-index-preserved
loop-index-preserved g c =
    let n = c.args.size in
    let ds = c.args.others.now in
    let x = c.case-item.result in
    let P : Case → Type 0 = λ y. HasSameLinesAsCases n ds (case_of y) in
    record {
      sofar =
          All-more P c.as_slice-case-items.result.now c.loop-index.index x c.loop-index-test.true c.loop-index.invariant.sofar
          (subst P c.case-item.is (subst (IsRowContrastOrNone n ds (case_of x)) c.in_default.is c.in_ok-found.ensures.contrast));
      only_asked = only_asked_then (λ d. (goal.Decider-dyn g (d.vtable, d.value)).kind_of d.value) (λ d. (goal.Decider-dyn g (d.vtable, d.value)).questions d.value) c.args.chosen.now c.loop-index.chosen c.compare_row.new.chosen c.loop-index.invariant.only_asked c.compare_row.ensures.only_asked;
    }

pub returns-clause-contrast : goal.returns-clause-contrast
returns-clause-contrast g c =
    let P = HasSameLinesAsCases c.args.size c.args.others.now in
    subst (All P) c.as_slice-case-items.ensures.items (of_all case_of P c.as_slice-case-items.result.now c.loop-index.index c.loop-index-test.false c.loop-index.invariant.sofar)
