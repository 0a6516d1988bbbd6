-- The outcome of a call, by what became of the reading.
use Rattle.std.proofs.Common.{◌≡◌, ℕ, ◌+◌, ◌≤◌, List, ◌++◌, length, refl, sym, ap, ◌∙◌, subst, ◌⊎◌, inl, inr, Option, Some, None, arith, length-append, append-nil}
use Rattle.std.specs.Prelude.{IfSome, IsNone}
use Rattle.std.specs.Io.KnownBytes.{Consumes, IsAtEnd}
use Rattle.lois_base.specs.declared.deciding.Kind.{Kind}
use Rattle.lois_outside.specs.Faults.{Rose}
use Rattle.lois_outside.specs.Reading.{TookAtMost, TookExactly, ReadsToEnd, GivesUp}
use Rattle.lois_outside.specs.declared.reading.ReadError.TheVariants as unread
use Rattle.lois_command.specs.Calls.{GaveUnder}
use Rattle.lois_command.specs.Sources.{TakeRelation}
use Rattle.lois_command.proofs.Given.{gave_nothing, more, exactly, given}
use Rattle.lois_questions.specs.Causes.{Serves, HasRead, HasTaken, HasCause, Promises, IsOutcomeOf, IsOfText, AnswersText}
use Rattle.lois_questions.specs.Outcomes.{status_of}
use Rattle.lois_questions.specs.Words.{Asks, IsUsage, limit_if_asked, limit_in, limit_of}
use Rattle.lois_questions.specs.declared.command_line.Question.{Question}
use Rattle.lois_questions.specs.declared.outcomes.Outcome.{Outcome}
use Rattle.lois_questions.specs.declared.outcomes.Outcome.TheVariants.{Word, NoWord, Within, Beyond, Same, Structure, Parameters, Differ, Picture, Refused, ReadFault, Usage}
use Rattle.lois_questions.specs.declared.outcomes.Refusal.TheVariants.{TooLong}

one_question : (q r : Question) (words : List (List ℕ)) → Asks q words → Asks r words → q ≡ r
one_question q r words a b = some_is (sym a ∙ b)
  where
    some_is : Some q ≡ Some r → q ≡ r
    some_is e = cc e

-- ---- the decider that was handed in

pub none_chosen : {X : Type 0} (chosen : Option X) → ((x : X) → chosen ≡ Some x → ⊥) → IsNone chosen
none_chosen None h = refl
none_chosen (Some x) h = absurd (h x refl)

pub some_chosen : {X : Type 0} (chosen : Option X) (x : X) → chosen ≡ Some x → IsNone chosen → ⊥
some_chosen None x e h = cc e
some_chosen (Some y) x e h = cc h

-- ---- by what became of the reading

known : (P : List ℕ → Type 0) → ((text : List ℕ) → P text) → (at : Option (List ℕ)) → IfSome at P
known P p None = tt
known P p (Some text) = p text

module _ {S : Type 0} (words : List (List ℕ)) (kinds : List Kind) (left : S → Option (List ℕ)) (faults : S → ℕ) (takes : TakeRelation S) (from to : S) where
  abbrev before : Option (List ℕ)
  before = left from

  abbrev after : Option (List ℕ)
  after = left to

  abbrev Faulty : Type 0
  Faulty = Rose (faults from) (faults to)

  pub usage_is_told : IsUsage words kinds → from ≡ to → IsOutcomeOf words kinds left faults takes from to Usage
  usage_is_told lacking same = record {
    usage = (λ e. lacking, λ n. refl);
    read_fault = λ e. absurd (not_fault e);
    read = same;
    taken = ap left same;
    cause = λ q asks. known (λ text. HasCause q text Usage) (λ text. tt) before;
    promise = λ q asks served. absurd (served lacking);
  }
    where
      not_fault : Usage ≡ ReadFault → ⊥
      not_fault e = cc e

  module _ (question : Question) (asks : Asks question words) (has : IsUsage words kinds → ⊥) (limit : ℕ) (limits : limit ≡ limit_of question) where
    for_question : (P : Question → Type 0) → P question → (q : Question) → Asks q words → P q
    for_question P p q a = subst P (one_question question q words asks a) p

    of_words : limit ≡ limit_in words
    of_words = limits ∙ sym (ap limit_if_asked asks)

    read_is : (o : Outcome) → HasRead takes limit words from to o → HasRead takes (limit_in words) words from to o
    read_is o h = subst (λ k. HasRead takes k words from to o) of_words h

    taken_is : (o : Outcome) → HasTaken limit before after o → HasTaken (limit_in words) before after o
    taken_is o h = subst (λ k. HasTaken k before after o) of_words h

    pub fault_is_told : GivesUp takes limit from unread.ReadFault to → TookAtMost limit before after → Faulty → IsOutcomeOf words kinds left faults takes from to ReadFault
    fault_is_told calls took rose = record {
      usage = (λ e. absurd (not_usage e), λ lacking. absurd (has lacking));
      read_fault = λ e. rose;
      read = read_is ReadFault calls;
      taken = taken_is ReadFault took;
      cause = λ q a. known (λ text. HasCause q text ReadFault) (λ text. tt) before;
      promise = λ q a served. known (λ text. Promises q text Faulty ReadFault) (λ text l r. inr (refl, rose)) before;
    }
      where
        not_usage : ReadFault ≡ Usage → ⊥
        not_usage e = cc e

    long_text : (text : List ℕ) (at : Option (List ℕ)) → TookExactly (limit + 1) (Some text) at → length text ≤ limit → ⊥
    long_text text None (bytes, took, count) l = took
    long_text text (Some rest) (bytes, took, count) l = omega (arith, l, count, ap length took, length-append bytes rest)

    long_promise : (from : Option (List ℕ)) → TookExactly (limit + 1) from after → IfSome from (λ text. Promises question text Faulty (Refused (TooLong limit)))
    long_promise None took = tt
    long_promise (Some text) took = λ l r. absurd (long_text text after took (subst (λ k. length text ≤ k) (sym limits) l))

    pub long_is_told : (n : ℕ) → GivesUp takes limit from (unread.TooLong n) to → (n ≡ limit + 1) × TookExactly n before after → IsOutcomeOf words kinds left faults takes from to (Refused (TooLong limit))
    long_is_told n calls (e, some) = let took : TookExactly (limit + 1) before after = subst (λ k. TookExactly k before after) e some in record {
      usage = (λ e. absurd (not_usage e), λ lacking. absurd (has lacking));
      read_fault = λ e. absurd (not_fault e);
      read = read_is (Refused (TooLong limit)) (refl, subst (λ k. GivesUp takes limit from (unread.TooLong k) to) e calls);
      taken = taken_is (Refused (TooLong limit)) took;
      cause = λ q a. for_question (λ p. IfSome before (λ text. HasCause p text (Refused (TooLong limit)))) (known (λ text. HasCause question text (Refused (TooLong limit))) (λ text. limits) before) q a;
      promise = λ q a served. for_question (λ p. IfSome before (λ text. Promises p text Faulty (Refused (TooLong limit)))) (long_promise before took) q a;
    }
      where
        not_usage : Refused (TooLong limit) ≡ Usage → ⊥
        not_usage e = cc e

        not_fault : Refused (TooLong limit) ≡ ReadFault → ⊥
        not_fault e = cc e

    text_is_not_usage : (o : Outcome) → IsOfText o → o ≡ Usage → ⊥
    text_is_not_usage o h e = subst IsOfText e h

    text_is_not_fault : (o : Outcome) → IsOfText o → o ≡ ReadFault → ⊥
    text_is_not_fault o h e = subst IsOfText e h

    text_taken : (o : Outcome) → IsOfText o → TookAtMost limit before after → IsAtEnd after → HasTaken limit before after o
    text_taken (Refused (TooLong n)) h took end = absurd h
    text_taken ReadFault h took end = absurd h
    text_taken Usage h took end = absurd h
    text_taken _ h took end = (took, end)

    all_text : (text bytes : List ℕ) (at : Option (List ℕ)) → Consumes (Some text) at bytes → IsAtEnd at → text ≡ bytes
    all_text text bytes None took end = absurd took
    all_text text bytes (Some rest) took end = took ∙ ap (λ l. bytes ++ l) end ∙ append-nil bytes

    no_fault : {P : Type 0} (o : Outcome) → P ⊎ ((o ≡ ReadFault) × ⊥) → P ⊎ ((o ≡ ReadFault) × Faulty)
    no_fault o (inl h) = inl h
    no_fault o (inr (e, none)) = absurd none

    of_text : (P : List ℕ → Type 0) (from : Option (List ℕ)) (bytes : List ℕ) → Consumes from after bytes → IsAtEnd after → P bytes → IfSome from P
    of_text P None bytes took end h = tt
    of_text P (Some text) bytes took end h = subst P (sym (all_text text bytes after took end)) h

    text_read : (bytes : List ℕ) (o : Outcome) → IsOfText o → ReadsToEnd takes (limit + 1) from bytes to → length bytes ≤ limit → Serves words bytes o → HasRead takes limit words from to o
    text_read bytes (Refused (TooLong n)) h calls fits serves = absurd h
    text_read bytes ReadFault h calls fits serves = absurd h
    text_read bytes Usage h calls fits serves = absurd h
    text_read bytes _ h calls fits serves = (bytes, calls, fits, serves)

    pub text_is_told : (bytes : List ℕ) (o : Outcome) → ReadsToEnd takes (limit + 1) from bytes to → Consumes before after bytes → IsAtEnd after → length bytes ≤ limit → AnswersText question bytes o → IsOutcomeOf words kinds left faults takes from to o
    text_is_told bytes o calls took end fits h = record {
      usage = (λ e. absurd (text_is_not_usage o h.kind e), λ lacking. absurd (has lacking));
      read_fault = λ e. absurd (text_is_not_fault o h.kind e);
      read = read_is o (text_read bytes o h.kind calls fits (λ q a. for_question (λ p. HasCause p bytes o × Promises p bytes ⊥ o) (h.cause, h.promise) q a));
      taken = taken_is o (text_taken o h.kind (bytes, took, fits) end);
      cause = λ q a. for_question (λ p. IfSome before (λ text. HasCause p text o)) (of_text (λ text. HasCause question text o) before bytes took end h.cause) q a;
      promise = λ q a served. for_question (λ p. IfSome before (λ text. Promises p text Faulty o))
          (of_text (λ text. Promises question text Faulty o) before bytes took end (λ l r. no_fault o (h.promise l r))) q a;
    }

-- ---- how much was read at most

module _ {S : Type 0} (left : S → Option (List ℕ)) (takes : TakeRelation S) (limit : ℕ) where
  of_outcome : (words : List (List ℕ)) (from to : S) (o : Outcome) → HasRead takes limit words from to o → HasTaken limit (left from) (left to) o → GaveUnder left takes limit (limit + 1) from to
  of_outcome words from to (Refused (TooLong n)) (is, read) took =
      record { bytes = read.0; calls = inl read.1; few = omega (arith, read.2); taken = exactly left takes limit (limit + 1) (left from) (left to) took }
  of_outcome words from to ReadFault (bytes, mid, asked, calls, few, room, last) took =
      record { bytes = bytes; calls = inr (mid, asked, calls, last); few = omega (arith, few); taken = more left takes limit limit (limit + 1) (left from) (left to) (omega arith) took }
  of_outcome words from to Usage same took = subst (GaveUnder left takes limit (limit + 1) from) same (gave_nothing left takes limit (limit + 1) from)
  of_outcome words from to _ read took = given left takes limit from to read.0 read.1 read.2 took.0

pub gave_for : {S : Type 0} (left : S → Option (List ℕ)) (takes : TakeRelation S) {words : List (List ℕ)} {kinds : List Kind} {faults : S → ℕ} (from to : S) (o : Outcome) → IsOutcomeOf words kinds left faults takes from to o → GaveUnder left takes (limit_in words) (limit_in words + 1) from to
gave_for left takes {words} from to o h = of_outcome left takes (limit_in words) words from to o h.read h.taken

-- ---- no outcome has the status of a write fault

pub never_seven : (o : Outcome) → status_of o ≡ 7 → ⊥
never_seven (Word k w parameters) e = cc e
never_seven NoWord e = cc e
never_seven Within e = cc e
never_seven (Beyond k d name parameters) e = cc e
never_seven Same e = cc e
never_seven Structure e = cc e
never_seven Parameters e = cc e
never_seven (Differ d parameters) e = cc e
never_seven (Picture g) e = cc e
never_seven (Refused refusal) e = cc e
never_seven ReadFault e = cc e
never_seven Usage e = cc e
