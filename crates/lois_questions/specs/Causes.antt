-- When each outcome comes, and what the sink is told.
use Rattle.std.specs.Prelude.{◌≡◌, ◌+◌, ◌≤◌, ◌⊎◌, ◌↔◌, ℕ, List, length, Option, IfSome}
use Rattle.std.specs.Io.KnownBytes.{IsAtEnd}
use Rattle.lois_base.specs.declared.deciding.Kind.{Kind}
use Rattle.lois_answers.specs.declared.results.Results.{Results}
use Rattle.lois_outside.specs.Faults.{Rose}
use Rattle.lois_outside.specs.Reading.{TookAtMost, TookExactly, ReadsToEnd, GivesUp}
use Rattle.lois_outside.specs.declared.reading.ReadError.TheVariants as unread
use Rattle.lois_reader.specs.Refusal.{IsResultsOf}
use Rattle.lois_same.specs.TwoTexts.{first_text, second_text}
use Rattle.lois_command.specs.Calls.{Puts, TextIsWritten}
use Rattle.lois_command.specs.Sources.{TakeRelation}
use Rattle.lois_command.specs.NoResults.{IsNoResults}
use Rattle.lois_questions.specs.Answers.{Answers}
use Rattle.lois_questions.specs.Outcomes.{status_of, outcome_text}
use Rattle.lois_questions.specs.Words.{Asks, IsUsage, limit_in, limit_of}
use Rattle.lois_questions.specs.declared.command_line.Question.{Question}
use Rattle.lois_questions.specs.declared.command_line.Question.TheVariants.{Same}
use Rattle.lois_questions.specs.declared.outcomes.Outcome.{Outcome}
use Rattle.lois_questions.specs.declared.outcomes.Outcome.TheVariants.{Refused, ReadFault, Usage}
use Rattle.lois_questions.specs.declared.outcomes.Refusal.TheVariants.{TooLong, NotResults, SecondNotResults}

-- How many bytes the outcome has taken under a limit: too long means exactly one more, and only it took so many.
abbrev pub HasTaken : ℕ → Option (List ℕ) → Option (List ℕ) → Outcome → Type 0
HasTaken limit before after (Refused (TooLong n)) = TookExactly (limit + 1) before after
HasTaken limit before after ReadFault = TookAtMost limit before after
HasTaken limit before after Usage = before ≡ after
HasTaken limit before after _ = TookAtMost limit before after × IsAtEnd after

-- the text is that of results
abbrev pub IsReadable : List ℕ → Type 0
IsReadable text = (r : Results) × IsResultsOf text r

-- `same` is asked of two texts, of which the first one is read first
abbrev pub first_asked : Question → List ℕ → List ℕ
first_asked Same text = first_text text
first_asked question text = text

-- Why the outcome comes, of the text that was to be read. Read faults, usage and texts that are too long have their causes
-- elsewhere: in the calls of the source, and in the words.
abbrev pub HasCause : Question → List ℕ → Outcome → Type 0
HasCause question text (Refused (TooLong n)) = n ≡ limit_of question
HasCause question text (Refused (NotResults place)) = IsNoResults (first_asked question text) place
HasCause question text (Refused (SecondNotResults place)) = (question ≡ Same) × IsReadable (first_text text) × IsNoResults (second_text text) place
HasCause question text ReadFault = Unit {0}
HasCause question text Usage = Unit {0}
HasCause question text o = Answers question text o

-- the text is that of what the question is asked of: results, or two of them
abbrev pub CanBeAsked : Question → List ℕ → Type 0
CanBeAsked Same text = IsReadable (first_text text) × IsReadable (second_text text)
CanBeAsked question text = IsReadable text

-- each such text within the limit has an answer, unless reading failed
abbrev pub Promises : Question → List ℕ → Type 0 → Outcome → Type 0
Promises question text fault o = length text ≤ limit_of question → CanBeAsked question text → Answers question text o ⊎ ((o ≡ ReadFault) × fault)

-- the outcome has its cause in the text, and keeps what the question that the words ask promises of it
abbrev pub Serves : List (List ℕ) → List ℕ → Outcome → Type 0
Serves words text o = (question : Question) → Asks question words → HasCause question text o × Promises question text ⊥ o

-- What the calls of the source gave under a limit, whether or not it tells what is left: too many bytes; or some, and then the
-- last call failed; or the whole text that the outcome is about, up to its end. For usage there was no call.
abbrev pub HasRead : {S : Type 0} → TakeRelation S → ℕ → List (List ℕ) → S → S → Outcome → Type 0
HasRead {S} takes limit words from to (Refused (TooLong n)) = (n ≡ limit) × GivesUp takes limit from (unread.TooLong (limit + 1)) to
HasRead {S} takes limit words from to ReadFault = GivesUp takes limit from unread.ReadFault to
HasRead {S} takes limit words from to Usage = from ≡ to
HasRead {S} takes limit words from to o = (text : List ℕ) × ReadsToEnd takes (limit + 1) from text to × (length text ≤ limit) × Serves words text o

-- The outcome of a call with these words and deciders of these kinds, which led from a source to a source: what each has
-- left, where it tells that, its count of faults, and what one of its calls is.
pub record IsOutcomeOf {S : Type 0} (words : List (List ℕ)) (kinds : List Kind) (left : S → Option (List ℕ)) (faults : S → ℕ) (takes : TakeRelation S) (from to : S) (o : Outcome) : Type 0 where
  -- usage comes exactly where the words aren't taken or there is no decider
  pub usage : (o ≡ Usage) ↔ IsUsage words kinds
  pub read_fault : o ≡ ReadFault → Rose (faults from) (faults to)
  pub read : HasRead takes (limit_in words) words from to o
  -- the same of a source that tells what it has left; there the text is also that of which too many bytes or too few were read
  pub taken : HasTaken (limit_in words) (left from) (left to) o
  pub cause : (question : Question) → Asks question words → IfSome (left from) (λ text. HasCause question text o)
  -- unless it is usage, the outcome keeps what the question promises
  pub promise : (question : Question) → Asks question words → (IsUsage words kinds → ⊥) → IfSome (left from) (λ text. Promises question text (Rose (faults from) (faults to)) o)

-- the status is the outcome's, and its text is written
abbrev pub OutcomeIsWritten : {K : Type 0} → (K → Option (List ℕ)) → (K → ℕ) → Puts K → K → K → Outcome → ℕ → Type 0
OutcomeIsWritten {K} held faults puts from to o status = TextIsWritten held faults puts from to (outcome_text o) (status_of o) status

-- a text comes to one of these
abbrev pub IsOfText : Outcome → Type 0
IsOfText (Refused (TooLong n)) = ⊥
IsOfText ReadFault = ⊥
IsOfText Usage = ⊥
IsOfText _ = Unit {0}

-- the answer to a text, once it is read
pub record AnswersText (question : Question) (text : List ℕ) (o : Outcome) : Type 0 where
  pub cause : HasCause question text o
  pub promise : Promises question text ⊥ o
  pub kind : IsOfText o
