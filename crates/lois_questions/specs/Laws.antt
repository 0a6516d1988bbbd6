-- Refusals exclude every other answer.
use Rattle.std.specs.Prelude.{◌≡◌, ℕ, List}
use Rattle.lois_questions.specs.Causes.{HasCause, IsOfText}
use Rattle.lois_questions.specs.declared.command_line.Question.{Question}
use Rattle.lois_questions.specs.declared.outcomes.Outcome.{Outcome}
use Rattle.lois_questions.specs.declared.outcomes.Outcome.TheVariants.{Refused}
use Rattle.lois_questions.specs.declared.outcomes.Refusal.{Refusal}
use Rattle.lois_questions.specs.declared.outcomes.Refusal.TheVariants.{NoCase, TwoCases}

-- The outcome is this refusal. Where cases are no partition it says so of the same text, by any choice that shows it.
abbrev pub IsRefusedSo : Refusal → Outcome → Type 0
IsRefusedSo (NoCase input s) o = (t : List ℕ) × (o ≡ Refused (NoCase input t))
IsRefusedSo (TwoCases input i j s) o = (k l : ℕ) × (t : List ℕ) × (o ≡ Refused (TwoCases input k l t))
IsRefusedSo refusal o = o ≡ Refused refusal

-- what is refused for its cause comes to that refusal, and to nothing else that has a cause in the text
abbrev pub RefusalsAreSure : Type 0
RefusalsAreSure =
    (question : Question) (text : List ℕ) (refusal : Refusal) (o : Outcome) → IsOfText (Refused refusal) → HasCause question text (Refused refusal)
    → IsOfText o → HasCause question text o → IsRefusedSo refusal o
