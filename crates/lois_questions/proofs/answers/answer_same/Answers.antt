use Rattle.std.proofs.Common.{◌≡◌, ℕ, List, ap, ◌∙◌, subst, take, drop}
use Rattle.lois_command.specs.NoResults.{IsNoResults}
use Rattle.lois_reader.specs.Refusal.{IsResultsOf}
use Rattle.lois_same.specs.TwoTexts.{first_text, second_text}
use Rattle.lois_questions.proofs.AnswersWritten.{answered_same, no_answer, no_second_answer, same_is_written}
use Rattle.lois_questions.specs.declared.command_line.Question.TheVariants.{Same}
use Rattle.lois_questions.proofs.answers.answer_same.Goals as goal

pub returns-in-NotResults-clause-answer : goal.returns-in-NotResults-clause-answer
returns-in-NotResults-clause-answer g c =
    let bytes = c.args.text.now in
    let front : c.split_at.result.0.now ≡ first_text bytes = c.split_at.ensures.front ∙ ap (λ (n : ℕ). take n bytes) c.first_length.ensures.length in
    let read = rw c.in-NotResults.is at c.in_ok-results.ensures in
    no_answer Same bytes c.in-NotResults.place (subst (λ (b : List ℕ). IsNoResults b c.in-NotResults.place) front read)

pub returns-in-NotResults-2-clause-answer : goal.returns-in-NotResults-2-clause-answer
returns-in-NotResults-2-clause-answer g c =
    let bytes = c.args.text.now in
    let front : c.split_at.result.0.now ≡ first_text bytes = c.split_at.ensures.front ∙ ap (λ (n : ℕ). take n bytes) c.first_length.ensures.length in
    let back : c.split_at.result.1.now ≡ second_text bytes = c.split_at.ensures.back ∙ ap (λ (n : ℕ). drop n bytes) c.first_length.ensures.length in
    let first = rw c.in-Results.is at c.in_ok-results.ensures in
    let read = rw c.in-NotResults-2.is at c.in_ok-results-2.ensures in
    no_second_answer bytes c.in-NotResults-2.place (c.in-Results.results, subst (λ (b : List ℕ). IsResultsOf b c.in-Results.results) front first)
    (subst (λ (b : List ℕ). IsNoResults b c.in-NotResults-2.place) back read)

pub returns-clause-answer : goal.returns-clause-answer
returns-clause-answer g c =
    let bytes = c.args.text.now in
    let front : c.split_at.result.0.now ≡ first_text bytes = c.split_at.ensures.front ∙ ap (λ (n : ℕ). take n bytes) c.first_length.ensures.length in
    let back : c.split_at.result.1.now ≡ second_text bytes = c.split_at.ensures.back ∙ ap (λ (n : ℕ). drop n bytes) c.first_length.ensures.length in
    let first = rw c.in-Results.is at c.in_ok-results.ensures in
    let second = rw c.in-Results-2.is at c.in_ok-results-2.ensures in
    answered_same bytes c.in-Results.results c.in-Results-2.results c.in_ok-likeness.likeness c.same_outcome.result
    (subst (λ (b : List ℕ). IsResultsOf b c.in-Results.results) front first) (subst (λ (b : List ℕ). IsResultsOf b c.in-Results-2.results) back second)
    c.in_ok-likeness.ensures.likeness c.same_outcome.ensures

pub returns-clause-written : goal.returns-clause-written
returns-clause-written g c =
    same_is_written c.in-Results.results.parameters c.in_ok-likeness.likeness c.same_outcome.result c.in_ok-likeness.ensures.levels c.same_outcome.ensures
