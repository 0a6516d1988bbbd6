use Rattle.std.proofs.Common.{ℕ, Global, map, string_bytes, ap, sym, subst, ◌∙◌, refl}
use Rattle.std.specs.Prelude.{IfErr}
use Rattle.std.proofs.lemmas.Result.{IfOk-weaker}
use Rattle.lois_command.proofs.Given.{gave_nothing, whatever_error}
use Rattle.lois_command.specs.Calls.{GaveUnder}
use Rattle.lois_questions.specs.Words.{limit_if_asked, limit_in}
use Rattle.lois_questions.proofs.TextsOfOutcomes.{none_chosen, some_chosen, usage_is_told}
use Rattle.lois_questions.proofs.top.outcome.Goals as goal

pub returns-in_err-question-clause-no_memory : goal.returns-in_err-question-clause-no_memory
returns-in_err-question-clause-no_memory g c =
    let limit : ℕ = limit_in (map (string_bytes {Z = Global}) c.args.words.now) in
    whatever_error g.S.Source.left g.S.Source.takes limit limit c.args.source.now c.args.source.now c.from_residual.result
    (gave_nothing g.S.Source.left g.S.Source.takes limit limit c.args.source.now)

pub returns-in_default-choose-clause-outcome : goal.returns-in_default-choose-clause-outcome
returns-in_default-choose-clause-outcome g c =
    usage_is_told _ _ g.S.Source.left g.S.Source.faults g.S.Source.takes c.args.source.now c.args.source.now
    (λ question asks. c.choose.ensures.none.0 (none_chosen c.choose.result c.in_default-choose.not-Some)) refl

pub returns-clause-outcome : goal.returns-clause-outcome
returns-clause-outcome g c =
    let asks = sym c.in_ok-question.ensures ∙ c.in-Some.is in
    IfOk-weaker c.answer_source.result _ _ (λ o told. told _ _ asks (λ usage. some_chosen c.choose.result c.in-Some-choose.chosen c.in-Some-choose.is (c.choose.ensures.none.1 (usage c.in-Some.question asks)))) c.answer_source.ensures.outcome

pub returns-clause-source_untouched : goal.returns-clause-source_untouched
returns-clause-source_untouched g c = λ usage.
    let asks = sym c.in_ok-question.ensures ∙ c.in-Some.is in
    absurd (some_chosen c.choose.result c.in-Some-choose.chosen c.in-Some-choose.is (c.choose.ensures.none.1 (usage c.in-Some.question asks)))

pub returns-clause-no_memory : goal.returns-clause-no_memory
returns-clause-no_memory g c =
    let asks = sym c.in_ok-question.ensures ∙ c.in-Some.is in
    subst (λ (n : ℕ). IfErr c.answer_source.result (λ e. GaveUnder g.S.Source.left g.S.Source.takes n n c.args.source.now c.answer_source.new.source)) (sym (ap limit_if_asked asks)) c.answer_source.ensures.no_memory
