-- When each outcome comes, and what the sink is told.
use Rattle.std.specs.Prelude.{◌≡◌, ◌+◌, ◌≤◌, ◌↔◌, ℕ, List, [], length, Option, IfSome}
use Rattle.std.specs.Io.KnownBytes.{IsAtEnd}
use Rattle.lois_base.specs.declared.deciding.Kind.{Kind}
use Rattle.lois_outside.specs.Faults.{Rose}
use Rattle.lois_outside.specs.Reading.{TookAtMost, TookExactly, ReadsToEnd, GivesUp}
use Rattle.lois_outside.specs.declared.reading.ReadError.TheVariants as unread
use Rattle.lois_base.specs.declared.limits.TheConstants.{LONGEST_TEXT}
use Rattle.lois_command.specs.Sources.{TakeRelation}
use Rattle.lois_run.specs.MadeCounts.{made_counts}
use Rattle.lois_run.specs.Services.{service_of}
use Rattle.lois_run.specs.Words.{Requests, IsUsage}
use Rattle.lois_run.specs.declared.outcomes.Outcome.{Outcome}
use Rattle.lois_run.specs.declared.outcomes.Outcome.TheVariants.{Made as WasMade, Refused, ReadFault, Usage}
use Rattle.lois_run.specs.declared.outcomes.Refusal.{Refusal}
use Rattle.lois_run.specs.declared.outcomes.Refusal.TheVariants.{TooLong}
use Rattle.lois_run.specs.declared.words.Command.{Command}
use Rattle.lois_run.specs.declared.words.Command.TheVariants.{Make}

-- How many bytes the outcome has taken: too long means exactly one more than a script may have, and only it took so many.
abbrev pub HasTaken : Option (List ℕ) → Option (List ℕ) → Outcome → Type 0
HasTaken before after (Refused TooLong) = TookExactly 1048577 before after
HasTaken before after ReadFault = TookAtMost LONGEST_TEXT before after
HasTaken before after Usage = before ≡ after
HasTaken before after (WasMade counts) = before ≡ after
HasTaken before after _ = TookAtMost LONGEST_TEXT before after × IsAtEnd after

-- the command is about the text of the source; `make` has a text of its own
abbrev pub ReadsText : Command → Type 0
ReadsText (Make n kind) = ⊥
ReadsText _ = Unit {0}

-- any text that is read may be too long; how much was taken then is said elsewhere
abbrev pub IsRefusedBy : Command → List ℕ → Refusal → Type 0
IsRefusedBy command text TooLong = ReadsText command
IsRefusedBy command text refusal = (service_of command).refuses text refusal

-- Why the outcome comes, of the text that was to be read. A text that is no well-scoped script never completes, and never fails. Read
-- faults, usage and texts that are too long have their causes elsewhere: in the calls of the source, and in the words.
abbrev pub HasCause : Command → List ℕ → Outcome → Type 0
HasCause command text (Refused refusal) = IsRefusedBy command text refusal
HasCause command text ReadFault = Unit {0}
HasCause command text Usage = Unit {0}
HasCause command text o = (service_of command).answers text o

-- what the command promises of a text that was to be read; `make` reads none, and comes to its counts
abbrev pub Promises : Command → List ℕ → Type 0 → Outcome → Type 0
Promises command text fault o = (service_of command).promises text fault o

-- the outcome has its cause in the text, and keeps what the command that the words ask for promises of it
abbrev pub Serves : List (List ℕ) → List ℕ → Outcome → Type 0
Serves words text o = (command : Command) → Requests command words → HasCause command text o × Promises command text ⊥ o

-- What the calls of the source gave, whether or not it tells what is left: too many bytes; or some, and then the last call
-- failed; or the whole text that the outcome is about, up to its end. For usage and for `make` there was no call.
abbrev pub HasRead : {S : Type 0} → TakeRelation S → List (List ℕ) → S → S → Outcome → Type 0
HasRead {S} takes words from to (Refused TooLong) = GivesUp takes LONGEST_TEXT from (unread.TooLong (LONGEST_TEXT + 1)) to
HasRead {S} takes words from to ReadFault = GivesUp takes LONGEST_TEXT from unread.ReadFault to
HasRead {S} takes words from to Usage = from ≡ to
HasRead {S} takes words from to (WasMade counts) = (from ≡ to) × Serves words [] (WasMade counts)
HasRead {S} takes words from to o = (text : List ℕ) × ReadsToEnd takes (LONGEST_TEXT + 1) from text to × (length text ≤ LONGEST_TEXT) × Serves words text o

-- The outcome of a call with these words and deciders of these kinds, which led from a source to a source: what each has
-- left, where it tells that, its count of faults, and what one of its calls is.
pub record IsOutcomeOf {S : Type 0} (words : List (List ℕ)) (kinds : List Kind) (left : S → Option (List ℕ)) (faults : S → ℕ) (takes : TakeRelation S) (from to : S) (o : Outcome) : Type 0 where
  -- usage comes exactly where the words aren't taken or lack their decider
  pub usage : (o ≡ Usage) ↔ IsUsage words kinds
  pub read_fault : o ≡ ReadFault → Rose (faults from) (faults to)
  pub read : HasRead takes words from to o
  -- the same of a source that tells what it has left; there the text is also that of which too many bytes or too few were read
  pub taken : HasTaken (left from) (left to) o
  pub cause : (command : Command) → Requests command words → IfSome (left from) (λ text. HasCause command text o)
  -- `make` comes to its counts, whatever the source tells
  pub made : (n : ℕ) (kind : Option Kind) → Requests (Make n kind) words → (IsUsage words kinds → ⊥) → o ≡ WasMade (made_counts n)
  -- unless it is usage, the outcome keeps what the command promises
  pub promise : (command : Command) → Requests command words → (IsUsage words kinds → ⊥) → IfSome (left from) (λ text. Promises command text (Rose (faults from) (faults to)) o)
