-- What a text comes to, once it is read.
use Rattle.std.specs.Prelude.{ℕ, List}
use Rattle.lois_run.specs.declared.outcomes.Outcome.{Outcome}
use Rattle.lois_run.specs.declared.outcomes.Outcome.TheVariants.{Made as WasMade, Refused, ReadFault, Usage}
use Rattle.lois_run.specs.declared.outcomes.Refusal.TheVariants.{TooLong}
use Rattle.lois_run.specs.declared.words.Command.{Command}
use Rattle.lois_run.specs.Causes.{HasCause, Promises}

-- a text comes to one of these
abbrev pub IsOfText : Outcome → Type 0
IsOfText (Refused TooLong) = ⊥
IsOfText ReadFault = ⊥
IsOfText Usage = ⊥
IsOfText (WasMade counts) = ⊥
IsOfText _ = Unit {0}

-- the answer to a text, once it is read
pub record AnswersText (command : Command) (text : List ℕ) (o : Outcome) : Type 0 where
  pub cause : HasCause command text o
  pub promise : Promises command text ⊥ o
  pub kind : IsOfText o
