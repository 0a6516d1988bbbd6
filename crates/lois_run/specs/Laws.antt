-- Refusals exclude each other and whatever else a text comes to.
use Rattle.std.specs.Prelude.{◌≡◌, ℕ, List}
use Rattle.lois_run.specs.Causes.{IsRefusedBy, HasCause}
use Rattle.lois_run.specs.TextAnswers.{IsOfText}
use Rattle.lois_run.specs.Read.{SpellsNone}
use Rattle.lois_run.specs.Refusals.{IsRefusedAs}
use Rattle.lois_run.specs.declared.outcomes.Outcome.{Outcome}
use Rattle.lois_run.specs.declared.outcomes.Outcome.TheVariants.{Refused}
use Rattle.lois_run.specs.declared.outcomes.Refusal.{Refusal}
use Rattle.lois_run.specs.declared.words.Command.{Command}

-- what is refused by a command comes to that refusal, and to nothing else that has a cause in the text
abbrev pub RefusalsAreSure : Type 0
RefusalsAreSure =
    (command : Command) (text : List ℕ) (refusal : Refusal) (o : Outcome) → IsOfText (Refused refusal) → IsRefusedBy command text refusal
    → IsOfText o → HasCause command text o → o ≡ Refused refusal

-- a text that is refused as a script spells no well-scoped one
abbrev pub RefusedSpellNone : Type 0
RefusedSpellNone = (text : List ℕ) (refusal : Refusal) → IsRefusedAs text refusal → SpellsNone text
