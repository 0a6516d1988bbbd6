use Rattle.std.proofs.Common.{◌≡◌, ◌-◌, length, refl, sym, ap, subst, ◌∙◌, arith}
use Rattle.std.specs.Prelude.{IsNone}
use Rattle.std.proofs.lemmas.List.{length-map}
use Rattle.lois_base.specs.Truth.{sampled}
use Rattle.lois_answers.specs.CaseView.{case_of}
use Rattle.lois_cases.specs.Cases.{CaseFits}
use Rattle.lois_cases.specs.Holding.{IsHolding}
use Rattle.lois_deciders.specs.Satisfaction.{IsEntailed}
use Rattle.lois_printer.proofs.Fitting.{holds_of_each}
use Rattle.lois_same.proofs.SameCases.{number_within}
use Rattle.lois_same.proofs.SameLines.{image_at}
use Rattle.lois_same.proofs.rows.find_entailed.Goals as goal

pub entails-requires-clause-second : goal.entails-requires-clause-second
entails-requires-clause-second g c =
    let cs = c.args.cases.now in
    let xs = c.as_slice.result.now in
    let number = c.in-Once.number in
    let bound = number_within (sampled c.deref.result.now) cs number (subst (IsHolding (sampled c.deref.result.now) cs) c.in-Once.is c.find_case.ensures) in
    let as_many : length xs ≡ length cs = sym (length-map xs case_of) ∙ ap length c.as_slice.ensures.items in
    holds_of_each (CaseFits c.args.size) case_of cs xs (number - 1) c.index-as_slice-number.result c.as_slice.ensures.items (omega (arith, bound.0, bound.1, as_many)) c.index-as_slice-number.is c.requires.cases

pub returns-clause-entailed : goal.returns-clause-entailed
returns-clause-entailed g c = λ d.
    let n = c.args.size in
    let cs = c.args.cases.now in
    let xs = c.as_slice.result.now in
    let number = c.in-Once.number in
    let bound = number_within (sampled c.deref.result.now) cs number (subst (IsHolding (sampled c.deref.result.now) cs) c.in-Once.is c.find_case.ensures) in
    let as_many : length xs ≡ length cs = sym (length-map xs case_of) ∙ ap length c.as_slice.ensures.items in
    let at = image_at case_of cs xs (number - 1) c.index-as_slice-number.result c.as_slice.ensures.items (omega (arith, bound.0, bound.1, as_many)) c.index-as_slice-number.is d in
    subst (λ z. IsEntailed n c.args.when.now z.«when») (sym at) (c.in_ok-entails.ensures.none.0 (subst IsNone (sym c.in-None.is) refl))
