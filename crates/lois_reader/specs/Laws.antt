-- Texts tell their values apart.
use Rattle.std.specs.Prelude.{◌≡◌, ◌<◌, ◌^◌, length}
use Rattle.lois_answers.specs.ResultsText.{results_text}
use Rattle.lois_answers.specs.Sound.{IsSound}
use Rattle.lois_answers.specs.TraceText.{answer_text}
use Rattle.lois_answers.specs.declared.faults.Answer.{Answer}
use Rattle.lois_answers.specs.declared.results.Results.{Results}
use Rattle.lois_reader.specs.Refusal.{IsSoundAnswer}

-- sound results with the same text are the same
abbrev pub ResultsAreTold : Type 0
ResultsAreTold = (r s : Results) → IsSound r → IsSound s → results_text r ≡ results_text s → r ≡ s

-- sound answers with the same text are the same, where memory holds the text
abbrev pub AnswersAreTold : Type 0
AnswersAreTold =
    (a b : Answer) → IsSoundAnswer a → IsSoundAnswer b → length (answer_text a) < 2 ^ 64 → answer_text a ≡ answer_text b → a ≡ b
