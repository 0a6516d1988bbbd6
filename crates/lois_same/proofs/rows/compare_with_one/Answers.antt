use Rattle.std.proofs.Common.{◌≡◌, ◌+◌, ◌<◌, length, sym, ap, subst, ◌∙◌, arith}
use Rattle.std.proofs.lemmas.List.{length-map}
use Rattle.lois_answers.specs.CaseView.{case_of}
use Rattle.lois_answers.specs.Sound.{IsSoundCase}
use Rattle.lois_deciders.specs.Satisfaction.{IsEntailed}
use Rattle.lois_printer.proofs.Fitting.{holds_of_each}
use Rattle.lois_same.specs.Rows.{IsPairContrastOrNone}
use Rattle.lois_same.proofs.SameCases.{is_case_at, same_as_one}
use Rattle.lois_same.proofs.SameLines.{image_at}
use Rattle.lois_same.proofs.rows.compare_with_one.Goals as goal

pub compare_pair-requires-clause-second : goal.compare_pair-requires-clause-second
compare_pair-requires-clause-second g c =
    let cs = c.args.others.now in
    let xs = c.as_slice.result.now in
    let as_many : length xs ≡ length cs = sym (length-map xs case_of) ∙ ap length c.as_slice.ensures.items in
    holds_of_each (IsSoundCase g.T.Structure.ordered c.args.size) case_of cs xs c.args.index c.index-as_slice-index.result c.as_slice.ensures.items (omega (arith, as_many, c.requires.below)) c.index-as_slice-index.is c.requires.second

pub returns-in-Some-clause-contrast : goal.returns-in-Some-clause-contrast
returns-in-Some-clause-contrast g c =
    let cs = c.args.others.now in
    let xs = c.as_slice.result.now in
    let x = c.index-as_slice-index.result in
    let as_many : length xs ≡ length cs = sym (length-map xs case_of) ∙ ap length c.as_slice.ensures.items in (
      case_of x,
      is_case_at cs xs c.args.index x c.as_slice.ensures.items (omega (arith, as_many, c.requires.below)) c.index-as_slice-index.is,
      subst (IsPairContrastOrNone c.args.size (case_of c.args.case.now) (case_of x)) c.in-Some.is c.in_ok-contrast.ensures.contrast,
    )

pub returns-in-None-clause-contrast : goal.returns-in-None-clause-contrast
returns-in-None-clause-contrast g c =
    let n = c.args.size in
    let k = case_of c.args.case.now in
    let cs = c.args.others.now in
    let xs = c.as_slice.result.now in
    let x = c.index-as_slice-index.result in
    let as_many : length xs ≡ length cs = sym (length-map xs case_of) ∙ ap length c.as_slice.ensures.items in
    let below : c.args.index < length xs = omega (arith, as_many, c.requires.below) in
    let at = image_at case_of cs xs c.args.index x c.as_slice.ensures.items below c.index-as_slice-index.is (case_of x) in
    same_as_one n cs (c.args.index + 1) k (case_of x) (is_case_at cs xs c.args.index x c.as_slice.ensures.items below c.index-as_slice-index.is)
    (subst (λ z. IsEntailed n k.«when» z.«when») at (c.requires.entailed (case_of x))) (subst (IsPairContrastOrNone n k (case_of x)) c.in-None.is c.in_ok-contrast.ensures.contrast)
