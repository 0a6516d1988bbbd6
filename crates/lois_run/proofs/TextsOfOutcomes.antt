-- The outcome of a call, by what became of the reading.
use Rattle.std.proofs.Common.{◌≡◌, ℕ, ◌+◌, ◌≤◌, List, [], ◌++◌, length, refl, sym, ap, ◌∙◌, subst, ◌⊎◌, inl, inr, ◌↔◌, ◌&&◌, Bool, true, false, Option, Some, None, true≢false, arith, length-append, append-nil}
use Rattle.std.specs.List.{All}
use Rattle.std.specs.Prelude.{is_none, IfSome, IsSome, IsNone, IsTrue, IfOk, Result, Ok, Err}
use Rattle.std.proofs.lemmas.Bool.{false≢true}
use Rattle.lois_base.specs.declared.deciding.Kind.{Kind}
use Rattle.lois_base.specs.declared.memory.NoMemory.{NoMemory}
use Rattle.std.specs.Io.KnownBytes.{Consumes, IsAtEnd}
use Rattle.lois_outside.specs.Faults.{Rose}
use Rattle.lois_outside.specs.Reading.{TookAtMost, TookExactly, ReadsToEnd, GivesUp}
use Rattle.lois_outside.specs.declared.reading.ReadError.TheVariants as unread
use Rattle.lois_command.specs.Calls.{GaveAtMost}
use Rattle.lois_command.specs.Sources.{TakeRelation}
use Rattle.lois_command.proofs.Given.{gave_nothing, more, exactly, given}
use Rattle.lois_run.specs.Causes.{Serves, HasRead, HasTaken, HasCause, ReadsText, Promises, IsOutcomeOf}
use Rattle.lois_run.specs.TextAnswers.{IsOfText, AnswersText}
use Rattle.lois_run.specs.Services.{HasMadeResults}
use Rattle.lois_answers.specs.declared.faults.FaultKind.{FaultKind}
use Rattle.lois_answers.specs.declared.faults.FaultKind.TheVariants.{Assertion, TurnLimit, DepthLimit, NotASet, NotAtoms, NotATuple, NoSuchPart, NotAutomaton, NotDeterministic, NotComplete}
use Rattle.lois_run.specs.Outcomes.{failure_status, status_of}
use Rattle.lois_run.specs.MadeCounts.{made_counts}
use Rattle.lois_run.specs.declared.outcomes.Made.{Made}
use Rattle.lois_base.specs.declared.limits.TheConstants.{LONGEST_TEXT}
use Rattle.lois_deciders.specs.Choice.{IsUnwanted}
use Rattle.lois_run.specs.Words.{Requests, LacksDecider, IsUsage, asks_decider, wanted_kind}
use Rattle.lois_run.specs.declared.outcomes.Outcome.{Outcome}
use Rattle.lois_run.specs.declared.outcomes.Outcome.TheVariants.{Completed, Failed, Reread as WrittenAgain, Checked, Made as WasMade, Same, Differ, Translated, Census as Listed, Refused, ReadFault, Usage}
use Rattle.lois_run.specs.declared.outcomes.Refusal.TheVariants.{TooLong, Lexical, Syntax, Scope, NotResults, NotRegisters, NoLine, NotDeterministic as NotFit, HasParameters, NotASet as NoSet}
use Rattle.lois_run.specs.declared.words.Command.{Command}
use Rattle.lois_run.specs.declared.words.Command.TheVariants.{Run, Check, Reread, Make, Equal, Registers, Census}

refused_is_not_usage : Refused TooLong ≡ Usage → ⊥
refused_is_not_usage e = cc e

fault_is_not_usage : ReadFault ≡ Usage → ⊥
fault_is_not_usage e = cc e

refused_is_not_fault : Refused TooLong ≡ ReadFault → ⊥
refused_is_not_fault e = cc e

made_is_not_usage : (counts : Made) → WasMade counts ≡ Usage → ⊥
made_is_not_usage counts e = cc e

made_is_not_fault : (counts : Made) → WasMade counts ≡ ReadFault → ⊥
made_is_not_fault counts e = cc e

usage_is_not_fault : Usage ≡ ReadFault → ⊥
usage_is_not_fault e = cc e

one_command : (c d : Command) (words : List (List ℕ)) → Requests c words → Requests d words → c ≡ d
one_command c d words a b = some_is (sym a ∙ b)
  where
    some_is : Some c ≡ Some d → c ≡ d
    some_is e = cc e

-- what doesn't lack its decider
pub has_its_decider : {X : Type 0} (runs : Bool) (chosen : Option X) → (runs && is_none chosen) ≡ false → IsTrue runs → IsSome chosen
has_its_decider true None e h = cc e
has_its_decider true (Some x) e h = refl
has_its_decider false chosen e h = absurd (false≢true h)

pub lacks_its_decider : {X : Type 0} (runs : Bool) (chosen : Option X) → (runs && is_none chosen) ≡ true → IsTrue runs × IsNone chosen
lacks_its_decider true None e = (refl, refl)
lacks_its_decider true (Some x) e = cc e
lacks_its_decider false chosen e = cc e

-- a command that isn't `make`
pub reads_text : (c : Command) → ((n : ℕ) (kind : Option Kind) → c ≡ Make n kind → ⊥) → ReadsText c
reads_text (Run kind) none = tt
reads_text Check none = tt
reads_text Reread none = tt
reads_text (Make n kind) none = none n kind refl
reads_text (Equal a b) none = tt
reads_text Registers none = tt
reads_text (Census a) none = tt

-- ---- the decider of a command

module _ {X : Type 0} (kinds : List Kind) (command : Command) (chosen : Option X) (choice : IsNone chosen ↔ All (IsUnwanted (wanted_kind command)) kinds) where
  pub lacks_decider : (words : List (List ℕ)) → Requests command words → IsTrue (asks_decider command) → IsNone chosen → IsUsage words kinds
  lacks_decider words asks wants none other asked = subst (λ c. LacksDecider c kinds) (one_command command other words asks asked) (wants, choice.0 none)

  pub has_decider : (IsTrue (asks_decider command) → IsSome chosen) → LacksDecider command kinds → ⊥
  has_decider some (wants, unwanted) = true≢false (sym (some wants) ∙ choice.1 unwanted)

module _ {S : Type 0} (words : List (List ℕ)) (kinds : List Kind) (left : S → Option (List ℕ)) (faults : S → ℕ) (takes : TakeRelation S) (from to : S) where
  abbrev before : Option (List ℕ)
  before = left from

  abbrev after : Option (List ℕ)
  after = left to

  abbrev faults_before : ℕ
  faults_before = faults from

  abbrev faults_after : ℕ
  faults_after = faults to

  pub usage_is_told : IsUsage words kinds → from ≡ to → IsOutcomeOf words kinds left faults takes from to Usage
  usage_is_told lacking same = record {
    usage = (λ e. lacking, λ n. refl);
    read_fault = λ e. absurd (usage_is_not_fault e);
    read = same;
    taken = ap left same;
    cause = λ c asks. usage_cause c before;
    made = λ n kind asks served. absurd (served lacking);
    promise = λ c asks served. absurd (served lacking);
  }
    where
      usage_cause : (c : Command) (at : Option (List ℕ)) → IfSome at (λ text. HasCause c text Usage)
      usage_cause c None = tt
      usage_cause c (Some text) = tt

  module _ (command : Command) (asks : Requests command words) (has : LacksDecider command kinds → ⊥) where
    no_usage : IsUsage words kinds → ⊥
    no_usage lacking = has (lacking command asks)

    for_command : (P : Command → Type 0) → P command → (c : Command) → Requests c words → P c
    for_command P p c a = subst P (one_command command c words asks a) p

    known : (P : List ℕ → Type 0) → ((text : List ℕ) → P text) → (at : Option (List ℕ)) → IfSome at P
    known P p None = tt
    known P p (Some text) = p text

    -- `make` that has its decider
    pub made_is_told : (n : ℕ) (kind : Option Kind) → command ≡ Make n kind → from ≡ to → HasMadeResults n → IsOutcomeOf words kinds left faults takes from to (WasMade (made_counts n))
    made_is_told n kind is same made = record {
      usage = (λ e. absurd (made_is_not_usage (made_counts n) e), λ lacking. absurd (no_usage lacking));
      read_fault = λ e. absurd (made_is_not_fault (made_counts n) e);
      read = (same, λ c a. for_command (λ d. HasCause d [] (WasMade (made_counts n)) × Promises d [] ⊥ (WasMade (made_counts n))) served_none c a);
      taken = ap left same;
      cause = λ c a. known (λ text. HasCause c text (WasMade (made_counts n))) (λ text. for_command (λ d. HasCause d text (WasMade (made_counts n))) (subst (λ d. HasCause d text (WasMade (made_counts n))) (sym is) (refl, made)) c a) before;
      made = λ m k a served. ap (λ j. WasMade (made_counts j)) (number_of (sym is ∙ one_command command (Make m k) words asks a));
      promise = λ c a served. known (λ text. Promises c text (Rose faults_before faults_after) (WasMade (made_counts n)))
          (λ text. for_command (λ d. Promises d text (Rose faults_before faults_after) (WasMade (made_counts n))) (subst (λ d. Promises d text (Rose faults_before faults_after) (WasMade (made_counts n))) (sym is) refl) c a) before;
    }
      where
        served_none : HasCause command [] (WasMade (made_counts n)) × Promises command [] ⊥ (WasMade (made_counts n))
        served_none = subst (λ d. HasCause d [] (WasMade (made_counts n)) × Promises d [] ⊥ (WasMade (made_counts n))) (sym is) ((refl, made), refl)

        number_of : {m : ℕ} {k : Option Kind} → Make n kind ≡ Make m k → n ≡ m
        number_of e = cc e

    -- what reads a text isn't `make`
    no_make : {P : Type 0} (n : ℕ) (kind : Option Kind) → ReadsText command → Requests (Make n kind) words → P
    no_make n kind reads a = absurd (subst ReadsText (one_command command (Make n kind) words asks a) reads)

    fault_promise : Rose faults_before faults_after → (c : Command) → ReadsText c → (text : List ℕ) → Promises c text (Rose faults_before faults_after) ReadFault
    fault_promise rose (Run kind) reads text = record { runs = λ s h. inr (refl, rose); completes = λ s h fine. inr (refl, rose); fails = λ s h some. inr (refl, rose); right = λ s h. tt }
    fault_promise rose (Make n kind) reads text = absurd reads
    fault_promise rose Check reads text = λ l s h. inr (refl, rose)
    fault_promise rose Reread reads text = λ l answer h. inr (refl, rose)
    fault_promise rose (Equal a b) reads text = λ l results h. inr (refl, rose)
    fault_promise rose Registers reads text = λ l automaton h. inr (refl, rose)
    fault_promise rose (Census a) reads text = λ l results h. inr (refl, rose)

    pub fault_is_told : ReadsText command → GivesUp takes LONGEST_TEXT from unread.ReadFault to → TookAtMost LONGEST_TEXT before after → Rose faults_before faults_after → IsOutcomeOf words kinds left faults takes from to ReadFault
    fault_is_told reads calls took rose = record {
      usage = (λ e. absurd (fault_is_not_usage e), λ lacking. absurd (no_usage lacking));
      read_fault = λ e. rose;
      read = calls;
      taken = took;
      cause = λ c a. known (λ text. HasCause c text ReadFault) (λ text. tt) before;
      made = λ n kind a served. no_make n kind reads a;
      promise = λ c a served. known (λ text. Promises c text (Rose faults_before faults_after) ReadFault) (fault_promise rose c (for_command ReadsText reads c a)) before;
    }

    long_text : (text : List ℕ) (at : Option (List ℕ)) → TookExactly 1048577 (Some text) at → length text ≤ LONGEST_TEXT → ⊥
    long_text text None (bytes, took, count) l = took
    long_text text (Some rest) (bytes, took, count) l = omega (arith, l, count, ap length took, length-append bytes rest)

    long_promise : (c : Command) → ReadsText c → (from : Option (List ℕ)) → TookExactly 1048577 from after → IfSome from (λ text. Promises c text (Rose faults_before faults_after) (Refused TooLong))
    long_promise c reads None took = tt
    long_promise (Make n kind) reads (Some text) took = absurd reads
    long_promise (Run kind) reads (Some text) took = record {
      runs = λ s h. absurd (long_text text after took h.fits);
      completes = λ s h fine. absurd (long_text text after took h.fits);
      fails = λ s h some. absurd (long_text text after took h.fits);
      right = λ s h. tt;
    }
    long_promise Check reads (Some text) took = λ l s h. absurd (long_text text after took l)
    long_promise Reread reads (Some text) took = λ l answer h. absurd (long_text text after took l)
    long_promise (Equal a b) reads (Some text) took = λ l results h. absurd (long_text text after took l)
    long_promise Registers reads (Some text) took = λ l automaton h. absurd (long_text text after took l)
    long_promise (Census a) reads (Some text) took = λ l results h. absurd (long_text text after took l)

    pub long_is_told : ReadsText command → (n : ℕ) → GivesUp takes LONGEST_TEXT from (unread.TooLong n) to → (n ≡ 1048577) × TookExactly n before after → IsOutcomeOf words kinds left faults takes from to (Refused TooLong)
    long_is_told reads n calls (e, some) = let took : TookExactly 1048577 before after = subst (λ k. TookExactly k before after) e some in record {
      usage = (λ e. absurd (refused_is_not_usage e), λ lacking. absurd (no_usage lacking));
      read_fault = λ e. absurd (refused_is_not_fault e);
      read = calls;
      taken = took;
      cause = λ c a. known (λ text. HasCause c text (Refused TooLong)) (λ text. for_command ReadsText reads c a) before;
      made = λ n kind a served. no_make n kind reads a;
      promise = λ c a served. long_promise c (for_command ReadsText reads c a) before took;
    }

    text_is_not_usage : (o : Outcome) → IsOfText o → o ≡ Usage → ⊥
    text_is_not_usage o h e = subst IsOfText e h

    text_is_not_fault : (o : Outcome) → IsOfText o → o ≡ ReadFault → ⊥
    text_is_not_fault o h e = subst IsOfText e h

    text_taken : (o : Outcome) → IsOfText o → TookAtMost LONGEST_TEXT before after → IsAtEnd after → HasTaken before after o
    text_taken (Refused TooLong) h took end = absurd h
    text_taken ReadFault h took end = absurd h
    text_taken Usage h took end = absurd h
    text_taken (WasMade counts) h took end = absurd h
    text_taken _ h took end = (took, end)

    all_text : (text bytes : List ℕ) (at : Option (List ℕ)) → Consumes (Some text) at bytes → IsAtEnd at → text ≡ bytes
    all_text text bytes None took end = absurd took
    all_text text bytes (Some rest) took end = took ∙ ap (λ l. bytes ++ l) end ∙ append-nil bytes

    no_fault : {P : Type 0} (o : Outcome) → P ⊎ ((o ≡ ReadFault) × ⊥) → P ⊎ ((o ≡ ReadFault) × Rose faults_before faults_after)
    no_fault o (inl h) = inl h
    no_fault o (inr (e, none)) = absurd none

    text_promise : (c : Command) (text : List ℕ) (o : Outcome) → Promises c text ⊥ o → Promises c text (Rose faults_before faults_after) o
    text_promise (Run kind) text o h = record {
      runs = λ s g. no_fault o (h.runs s g);
      completes = λ s g fine. no_fault o (h.completes s g fine);
      fails = λ s g some. no_fault o (h.fails s g some);
      right = h.right;
    }
    text_promise (Make n kind) text o h = h
    text_promise Check text o h = λ l s is. no_fault o (h l s is)
    text_promise Reread text o h = λ l answer is. no_fault o (h l answer is)
    text_promise (Equal a b) text o h = λ l results is. no_fault o (h l results is)
    text_promise Registers text o h = λ l automaton is. no_fault o (h l automaton is)
    text_promise (Census a) text o h = λ l results is. no_fault o (h l results is)

    of_text : (P : List ℕ → Type 0) (from : Option (List ℕ)) (bytes : List ℕ) → Consumes from after bytes → IsAtEnd after → P bytes → IfSome from P
    of_text P None bytes took end h = tt
    of_text P (Some text) bytes took end h = subst P (sym (all_text text bytes after took end)) h

    text_read : (bytes : List ℕ) (o : Outcome) → IsOfText o → ReadsToEnd takes (LONGEST_TEXT + 1) from bytes to → length bytes ≤ LONGEST_TEXT → Serves words bytes o → HasRead takes words from to o
    text_read bytes (Refused TooLong) h calls fits serves = absurd h
    text_read bytes ReadFault h calls fits serves = absurd h
    text_read bytes Usage h calls fits serves = absurd h
    text_read bytes (WasMade counts) h calls fits serves = absurd h
    text_read bytes _ h calls fits serves = (bytes, calls, fits, serves)

    served : (bytes : List ℕ) (o : Outcome) → AnswersText command bytes o → Serves words bytes o
    served bytes o h c a = for_command (λ d. HasCause d bytes o × Promises d bytes ⊥ o) (h.cause, h.promise) c a

    pub text_is_told : ReadsText command → (bytes : List ℕ) (o : Outcome) → ReadsToEnd takes (LONGEST_TEXT + 1) from bytes to → Consumes before after bytes → IsAtEnd after → length bytes ≤ LONGEST_TEXT → AnswersText command bytes o → IsOutcomeOf words kinds left faults takes from to o
    text_is_told reads bytes o calls took end fits h = record {
      usage = (λ e. absurd (text_is_not_usage o h.kind e), λ lacking. absurd (no_usage lacking));
      read_fault = λ e. absurd (text_is_not_fault o h.kind e);
      read = text_read bytes o h.kind calls fits (served bytes o h);
      taken = text_taken o h.kind (bytes, took, fits) end;
      cause = λ c a. for_command (λ d. IfSome before (λ text. HasCause d text o)) (of_text (λ text. HasCause command text o) before bytes took end h.cause) c a;
      made = λ n kind a served. no_make n kind reads a;
      promise = λ c a served. for_command (λ d. IfSome before (λ text. Promises d text (Rose faults_before faults_after) o))
          (of_text (λ text. Promises command text (Rose faults_before faults_after) o) before bytes took end (text_promise command bytes o h.promise)) c a;
    }

    pub answered_is_told : ReadsText command → (bytes : List ℕ) (r : Result Outcome NoMemory) → ReadsToEnd takes (LONGEST_TEXT + 1) from bytes to → Consumes before after bytes → IsAtEnd after → length bytes ≤ LONGEST_TEXT → IfOk r (AnswersText command bytes) → IfOk r (IsOutcomeOf words kinds left faults takes from to)
    answered_is_told reads bytes (Ok o) calls took end fits h = text_is_told reads bytes o calls took end fits h
    answered_is_told reads bytes (Err e) calls took end fits h = tt

-- ---- how much was read at most

module _ {S : Type 0} (left : S → Option (List ℕ)) (takes : TakeRelation S) where
  of_outcome : (words : List (List ℕ)) (from to : S) (o : Outcome) → HasRead takes words from to o → HasTaken (left from) (left to) o → GaveAtMost left takes (LONGEST_TEXT + 1) from to
  of_outcome words from to (Refused TooLong) read took = record { bytes = read.0; calls = inl read.1; few = omega (arith, read.2); taken = exactly left takes LONGEST_TEXT 1048577 (left from) (left to) took }
  of_outcome words from to (Refused (Lexical n p)) read took = given left takes LONGEST_TEXT from to read.0 read.1 read.2 took.0
  of_outcome words from to (Refused (Syntax n p)) read took = given left takes LONGEST_TEXT from to read.0 read.1 read.2 took.0
  of_outcome words from to (Refused (Scope n p)) read took = given left takes LONGEST_TEXT from to read.0 read.1 read.2 took.0
  of_outcome words from to (Refused (NotResults p)) read took = given left takes LONGEST_TEXT from to read.0 read.1 read.2 took.0
  of_outcome words from to (Refused (NotRegisters p)) read took = given left takes LONGEST_TEXT from to read.0 read.1 read.2 took.0
  of_outcome words from to (Refused (NoLine n k)) read took = given left takes LONGEST_TEXT from to read.0 read.1 read.2 took.0
  of_outcome words from to (Refused (NotFit n k)) read took = given left takes LONGEST_TEXT from to read.0 read.1 read.2 took.0
  of_outcome words from to (Refused HasParameters) read took = given left takes LONGEST_TEXT from to read.0 read.1 read.2 took.0
  of_outcome words from to (Refused (NoSet n k)) read took = given left takes LONGEST_TEXT from to read.0 read.1 read.2 took.0
  of_outcome words from to (Completed r) read took = given left takes LONGEST_TEXT from to read.0 read.1 read.2 took.0
  of_outcome words from to (Failed t) read took = given left takes LONGEST_TEXT from to read.0 read.1 read.2 took.0
  of_outcome words from to (WrittenAgain answer) read took = given left takes LONGEST_TEXT from to read.0 read.1 read.2 took.0
  of_outcome words from to (Checked script) read took = given left takes LONGEST_TEXT from to read.0 read.1 read.2 took.0
  of_outcome words from to Same read took = given left takes LONGEST_TEXT from to read.0 read.1 read.2 took.0
  of_outcome words from to (Differ k d name parameters) read took = given left takes LONGEST_TEXT from to read.0 read.1 read.2 took.0
  of_outcome words from to (Translated r) read took = given left takes LONGEST_TEXT from to read.0 read.1 read.2 took.0
  of_outcome words from to (Listed cs) read took = given left takes LONGEST_TEXT from to read.0 read.1 read.2 took.0
  of_outcome words from to ReadFault (bytes, mid, asked, calls, few, room, last) took = record { bytes = bytes; calls = inr (mid, asked, calls, last); few = omega (arith, few); taken = more left takes LONGEST_TEXT LONGEST_TEXT (LONGEST_TEXT + 1) (left from) (left to) (omega arith) took }
  of_outcome words from to (WasMade counts) (same, by) took = subst (GaveAtMost left takes (LONGEST_TEXT + 1) from) same (gave_nothing left takes LONGEST_TEXT (LONGEST_TEXT + 1) from)
  of_outcome words from to Usage same took = subst (GaveAtMost left takes (LONGEST_TEXT + 1) from) same (gave_nothing left takes LONGEST_TEXT (LONGEST_TEXT + 1) from)

  pub gave_for : {words : List (List ℕ)} {kinds : List Kind} {faults : S → ℕ} (from to : S) (o : Outcome) → IsOutcomeOf words kinds left faults takes from to o → GaveAtMost left takes (LONGEST_TEXT + 1) from to
  gave_for {words} from to o h = of_outcome words from to o h.read h.taken

-- ---- no outcome has the status of a write fault

no_failure_seven : (k : FaultKind) → failure_status k ≡ 7 → ⊥
no_failure_seven Assertion e = cc e
no_failure_seven TurnLimit e = cc e
no_failure_seven DepthLimit e = cc e
no_failure_seven NotASet e = cc e
no_failure_seven NotAtoms e = cc e
no_failure_seven NotATuple e = cc e
no_failure_seven NoSuchPart e = cc e
no_failure_seven NotAutomaton e = cc e
no_failure_seven NotDeterministic e = cc e
no_failure_seven NotComplete e = cc e

pub never_seven : (o : Outcome) → status_of o ≡ 7 → ⊥
never_seven (Completed r) e = cc e
never_seven (Failed t) e = no_failure_seven t.kind e
never_seven (WrittenAgain answer) e = cc e
never_seven (Checked script) e = cc e
never_seven (WasMade counts) e = cc e
never_seven Same e = cc e
never_seven (Differ k d name parameters) e = cc e
never_seven (Translated r) e = cc e
never_seven (Listed cs) e = cc e
never_seven (Refused refusal) e = cc e
never_seven ReadFault e = cc e
never_seven Usage e = cc e
