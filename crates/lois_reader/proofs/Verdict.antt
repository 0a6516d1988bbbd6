-- What reading gives, and what an error says of the text.
use Rattle.std.proofs.Common.{◌≡◌, ℕ, ◌+◌, ◌-◌, ◌^◌, ◌<◌, ◌⊎◌, inl, inr, List, [], length, Some, None, Result, Ok, Err, refl, sym, ap, subst, ◌∙◌, arith, length-append}
use Rattle.lois_answers.specs.declared.faults.Answer.{Answer}
use Rattle.lois_answers.specs.declared.results.Results.{Results}
use Rattle.lois_reader.specs.Draft.{ResultsDraft, TraceDraft, AnswerDraft}
use Rattle.lois_reader.specs.Draft as draft
use Rattle.lois_reader.specs.Pieces.{Piece, results_pieces, trace_pieces, answer_pieces}
use Rattle.lois_reader.specs.Shape.{text_of_pieces, first_broken, SpellsResults, SpellsAnswer, HasResultsShape, HasAnswerShape, LeavesShapeAt, BreaksRuleAt}
use Rattle.lois_reader.specs.Reading.{◌>>=◌, End, ErrorIs}
use Rattle.lois_reader.specs.Refusal.{IsResultsOf, IsAnswerOf, NoValueHolds, IsErrorPlace}
use Rattle.lois_reader.specs.WholeTexts.{IsErrorOfHalt, results_reading, answer_reading}
use Rattle.lois_reader.specs.AnswerEnds.{results_text_end, answer_text_end}
use Rattle.lois_reader.specs.AnswerValues.{results_text_at, answer_text_at}
use Rattle.lois_reader.specs.declared.ResultError.{ResultError}
use Rattle.lois_reader.specs.declared.ResultError.TheVariants.{NotResults, NoMemory}
use Rattle.lois_reader.specs.declared.parse_error.ParseError.{ParseError}
use Rattle.lois_reader.specs.declared.parse_error.ParseError.TheVariants as halts
use Rattle.lois_reader.proofs.Outcome.{size, size_is, out}
use Rattle.lois_reader.proofs.AnswerOutcome.{results_of}
use Rattle.lois_reader.proofs.TraceFronts.{trace_of, answer_of, answer_reading_is}
use Rattle.lois_reader.proofs.Backs.{no_ok, same_ok}
use Rattle.lois_reader.proofs.DraftOf.{Unbroken, out_unbroken}
use Rattle.lois_reader.proofs.Exact.{Exact}
use Rattle.lois_reader.proofs.ExactAnswers.{results_text_exact, answer_text_exact}
use Rattle.lois_reader.proofs.SpelledAnswers.{results_text_spelled, answer_text_spelled}
use Rattle.lois_reader.proofs.Leaving.{leaves_at, results_accepted, answer_accepted}
use Rattle.lois_reader.proofs.ResultsBack.{reading_is, results_back, results_text_is, out_broken}
use Rattle.lois_reader.proofs.TraceBack.{answer_back, trace_text_is}
use Rattle.lois_reader.proofs.Unbroken.{unbroken_none}
use Rattle.lois_reader.proofs.UnbrokenAnswers.{results_good, trace_good}

same_left : {V : Type 0} {l m : ℕ} → (let r : Result V ℕ = Err l in r) ≡ Err m → l ≡ m
same_left e = cc

-- The reader of the shape passes the texts that drafts spell. What is read of a draft is the value that it stands for, or its
-- first broken rule, and what a draft without one stands for holds.
record Reads {V D : Type 0} (ends : List ℕ → End) (value_at : List ℕ → Result V ℕ) (Spells : List ℕ → D → Type 0) (pieces : D → List Piece) (val : D → V) (Holds : List ℕ → V → Type 0) : Type 0 where
  exact : (s : List ℕ) → Exact ends s
  spelled : (s : List ℕ) → ends s ≡ Ok [] → (d : D) × Spells s d
  accepted : (s : List ℕ) → ((d : D) × Spells s d) → ends s ≡ Ok []
  reads : (s : List ℕ) (d : D) → Spells s d → (ends s >>= λ end. value_at s) ≡ (out (pieces d) (val d) [] >>= λ x. Ok x.0)
  sized : (s : List ℕ) (d : D) → Spells s d → size (pieces d) ≡ length s
  whole : (s : List ℕ) (d : D) → Spells s d → Unbroken (pieces d) → length s < 2 ^ 64 → Holds s (val d)
  back : (s : List ℕ) (v : V) → length s < 2 ^ 64 → Holds s v → (ends s >>= λ end. value_at s) ≡ Ok v

module _ {V D : Type 0} (ends : List ℕ → End) (value_at : List ℕ → Result V ℕ) (Spells : List ℕ → D → Type 0) (pieces : D → List Piece) (val : D → V) (Holds : List ℕ → V → Type 0)
    (reader : Reads ends value_at Spells pieces val Holds)
  where
    abbrev read : List ℕ → Result V ℕ
    read s = ends s >>= λ end. value_at s

    -- what is read of a draft
    data OfDraft (s : List ℕ) (d : D) : Type 0 where
      value : read s ≡ Ok (val d) → Holds s (val d) → OfDraft s d
      rule : (p left : ℕ) → first_broken (pieces d) ≡ Some p → read s ≡ Err left → p + left ≡ length s → OfDraft s d

    of_draft : (s : List ℕ) (d : D) → Spells s d → length s < 2 ^ 64 → OfDraft s d
    of_draft s d spells short =
        elim (first_broken (pieces d)) as (λ o. first_broken (pieces d) ≡ o → OfDraft s d) [
          | None ↦ λ e. let unbroken = unbroken_none (pieces d) e in
              value (reader.reads s d spells ∙ ap (λ r. r >>= λ x. Ok x.0) (out_unbroken (pieces d) (val d) [] unbroken)) (reader.whole s d spells unbroken short)
          | Some p ↦ λ e. let b = out_broken (pieces d) (val d) [] p e in
              let sum : p + b.0 ≡ size (pieces d) + 0 = b.2 in
              rule p b.0 e (reader.reads s d spells ∙ ap (λ r. r >>= λ x. Ok x.0) b.1) (omega (arith, reader.sized s d spells))
        ] refl

    value_holds : (s : List ℕ) (d : D) (v : V) → OfDraft s d → read s ≡ Ok v → Holds s v
    value_holds s d v (value is holds) e = subst (Holds s) (same_ok (sym is ∙ e)) holds
    value_holds s d v (rule p left broken is sum) e = absurd (no_ok (sym is ∙ e))

    -- what is read is the value of the text
    read_holds : (s : List ℕ) (v : V) → length s < 2 ^ 64 → read s ≡ Ok v → Holds s v
    read_holds s v short e = by_exact (reader.exact s)
      where
        by_exact : Exact ends s → Holds s v
        by_exact (Exact.accepts ok) = let d = reader.spelled s ok in value_holds s d.0 v (of_draft s d.0 d.1 short) e
        by_exact (Exact.refuses h) = absurd (no_ok (sym (ap (λ (r : End). r >>= λ end. value_at s) h.left) ∙ e))

    -- a draft breaks its first rule where reading stops
    breaks : (s : List ℕ) (d : D) (left : ℕ) → read s ≡ Err left → OfDraft s d → first_broken (pieces d) ≡ Some (length s - left)
    breaks s d left e (value is holds) = absurd (no_ok (sym e ∙ is))
    breaks s d left e (rule p other broken is sum) =
        let same : other ≡ left = same_left (sym is ∙ e) in
        broken ∙ ap (λ (k : ℕ). Some k) (omega arith)

    place_is : (s : List ℕ) (left : ℕ) → length s < 2 ^ 64 → read s ≡ Err left → LeavesShapeAt (λ t. (d : D) × Spells t d) s (length s - left) ⊎ BreaksRuleAt (Spells s) pieces (length s - left)
    place_is s left short e = by_exact (reader.exact s)
      where
        by_exact : Exact ends s → LeavesShapeAt (λ t. (d : D) × Spells t d) s (length s - left) ⊎ BreaksRuleAt (Spells s) pieces (length s - left)
        by_exact (Exact.accepts ok) =
            let d = reader.spelled s ok in
            inr (record { draft = d.0; spelled = d.1; first = λ x spells. breaks s x left e (of_draft s x spells short) })
        by_exact (Exact.refuses h) =
            let same : left ≡ length h.rest = same_left (sym e ∙ ap (λ (r : End). r >>= λ end. value_at s) h.left) in
            let at : length h.front ≡ length s - left = omega (arith, ap length h.split, length-append h.front h.rest) in
            inl (subst (LeavesShapeAt (λ t. (d : D) × Spells t d) s) at (leaves_at ends (λ t. (d : D) × Spells t d) reader.spelled reader.accepted s h))

    place_of : (s : List ℕ) (h : ParseError) (e : ResultError) → length s < 2 ^ 64 → ErrorIs h (read s) → IsErrorOfHalt (length s) h e → IsErrorPlace (λ t. (d : D) × Spells t d) Spells pieces s e
    place_of s halts.NoMemory e short failed is_error = subst (IsErrorPlace (λ t. (d : D) × Spells t d) Spells pieces s) (sym is_error) tt
    place_of s (halts.Left left) e short failed is_error = subst (IsErrorPlace (λ t. (d : D) × Spells t d) Spells pieces s) (sym is_error) (place_is s left short failed)

    none_of : (s : List ℕ) (h : ParseError) (e : ResultError) → length s < 2 ^ 64 → ErrorIs h (read s) → IsErrorOfHalt (length s) h e → NoValueHolds (Holds s) e
    none_of s halts.NoMemory e short failed is_error = subst (NoValueHolds (Holds s)) (sym is_error) tt
    none_of s (halts.Left left) e short failed is_error = subst (NoValueHolds (Holds s)) (sym is_error) (λ v holds. no_ok (sym failed ∙ reader.back s v short holds))

-- a text that is some value's isn't refused
pub accepted_value : {V : Type 0} (Holds : V → Type 0) (e : ResultError) → NoValueHolds Holds e → (v : V) → Holds v → e ≡ NoMemory
accepted_value Holds NoMemory none v holds = refl
accepted_value Holds (NotResults k) none v holds = absurd (none v holds)

-- ---- results

results_reads : (s : List ℕ) (d : ResultsDraft) → SpellsResults s d → results_reading s ≡ (out (results_pieces d) (results_of d) [] >>= λ x. Ok x.0)
results_reads s d h = subst (λ (t : List ℕ). results_reading t ≡ (out (results_pieces d) (results_of d) [] >>= λ x. Ok x.0)) h.spelled (reading_is d h.form)

results_sized : (s : List ℕ) (d : ResultsDraft) → SpellsResults s d → size (results_pieces d) ≡ length s
results_sized s d h = sym (size_is (results_pieces d)) ∙ ap length h.spelled

results_whole : (s : List ℕ) (d : ResultsDraft) → SpellsResults s d → Unbroken (results_pieces d) → length s < 2 ^ 64 → IsResultsOf s (results_of d)
results_whole s d h unbroken short =
    let g = results_good d h.form unbroken (omega (arith, results_sized s d h)) in
    (g.sound, sym (results_text_is (results_of d)) ∙ ap (λ (x : ResultsDraft). text_of_pieces (results_pieces x)) g.same ∙ h.spelled)

results_known : (s : List ℕ) (r : Results) → length s < 2 ^ 64 → IsResultsOf s r → results_reading s ≡ Ok r
results_known s r short holds = subst (λ (t : List ℕ). results_reading t ≡ Ok r) holds.1 (results_back r holds.0)

results_reader : Reads results_text_end results_text_at SpellsResults results_pieces results_of IsResultsOf
results_reader = record {
  exact = results_text_exact;
  spelled = results_text_spelled;
  accepted = results_accepted;
  reads = results_reads;
  sized = results_sized;
  whole = results_whole;
  back = results_known;
}

pub results_hold : (s : List ℕ) (r : Results) → length s < 2 ^ 64 → results_reading s ≡ Ok r → IsResultsOf s r
results_hold = read_holds results_text_end results_text_at SpellsResults results_pieces results_of IsResultsOf results_reader

-- what is read is the one value of the text
pub results_those : (s : List ℕ) (r other : Results) → length s < 2 ^ 64 → results_reading s ≡ Ok r → IsResultsOf s other → r ≡ other
results_those s r other short e holds = same_ok (sym e ∙ results_known s other short holds)

pub results_place : (s : List ℕ) (h : ParseError) (e : ResultError) → length s < 2 ^ 64 → ErrorIs h (results_reading s) → IsErrorOfHalt (length s) h e → IsErrorPlace HasResultsShape SpellsResults results_pieces s e
results_place = place_of results_text_end results_text_at SpellsResults results_pieces results_of IsResultsOf results_reader

pub results_none : (s : List ℕ) (h : ParseError) (e : ResultError) → length s < 2 ^ 64 → ErrorIs h (results_reading s) → IsErrorOfHalt (length s) h e → NoValueHolds (IsResultsOf s) e
results_none = none_of results_text_end results_text_at SpellsResults results_pieces results_of IsResultsOf results_reader

-- ---- answers

answer_reads : (s : List ℕ) (a : AnswerDraft) → SpellsAnswer s a → answer_reading s ≡ (out (answer_pieces a) (answer_of a) [] >>= λ x. Ok x.0)
answer_reads s a h = subst (λ (t : List ℕ). answer_reading t ≡ (out (answer_pieces a) (answer_of a) [] >>= λ x. Ok x.0)) h.spelled (answer_reading_is a h.form)

answer_sized : (s : List ℕ) (a : AnswerDraft) → SpellsAnswer s a → size (answer_pieces a) ≡ length s
answer_sized s a h = sym (size_is (answer_pieces a)) ∙ ap length h.spelled

answer_whole : (s : List ℕ) (a : AnswerDraft) → SpellsAnswer s a → Unbroken (answer_pieces a) → length s < 2 ^ 64 → IsAnswerOf s (answer_of a)
answer_whole s (draft.results d) h unbroken short =
    let g = results_good d h.form unbroken (omega (arith, answer_sized s (draft.results d) h)) in
    (g.sound, sym (results_text_is (results_of d)) ∙ ap (λ (x : ResultsDraft). text_of_pieces (results_pieces x)) g.same ∙ h.spelled)
answer_whole s (draft.trace t) h unbroken short =
    let g = trace_good t h.form unbroken (omega (arith, answer_sized s (draft.trace t) h)) in
    (g.sound, sym (trace_text_is (trace_of t)) ∙ ap (λ (x : TraceDraft). text_of_pieces (trace_pieces x)) g.same ∙ h.spelled)

answer_known : (s : List ℕ) (a : Answer) → length s < 2 ^ 64 → IsAnswerOf s a → answer_reading s ≡ Ok a
answer_known s a short holds = subst (λ (t : List ℕ). answer_reading t ≡ Ok a) holds.1 (answer_back a holds.0 (subst (λ (t : List ℕ). length t < 2 ^ 64) (sym holds.1) short))

answer_reader : Reads answer_text_end answer_text_at SpellsAnswer answer_pieces answer_of IsAnswerOf
answer_reader = record {
  exact = answer_text_exact;
  spelled = answer_text_spelled;
  accepted = answer_accepted;
  reads = answer_reads;
  sized = answer_sized;
  whole = answer_whole;
  back = answer_known;
}

pub answer_holds : (s : List ℕ) (a : Answer) → length s < 2 ^ 64 → answer_reading s ≡ Ok a → IsAnswerOf s a
answer_holds = read_holds answer_text_end answer_text_at SpellsAnswer answer_pieces answer_of IsAnswerOf answer_reader

pub answer_those : (s : List ℕ) (a other : Answer) → length s < 2 ^ 64 → answer_reading s ≡ Ok a → IsAnswerOf s other → a ≡ other
answer_those s a other short e holds = same_ok (sym e ∙ answer_known s other short holds)

pub answer_place : (s : List ℕ) (h : ParseError) (e : ResultError) → length s < 2 ^ 64 → ErrorIs h (answer_reading s) → IsErrorOfHalt (length s) h e → IsErrorPlace HasAnswerShape SpellsAnswer answer_pieces s e
answer_place = place_of answer_text_end answer_text_at SpellsAnswer answer_pieces answer_of IsAnswerOf answer_reader

pub answer_none : (s : List ℕ) (h : ParseError) (e : ResultError) → length s < 2 ^ 64 → ErrorIs h (answer_reading s) → IsErrorOfHalt (length s) h e → NoValueHolds (IsAnswerOf s) e
answer_none = none_of answer_text_end answer_text_at SpellsAnswer answer_pieces answer_of IsAnswerOf answer_reader
