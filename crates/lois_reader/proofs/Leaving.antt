-- Where a text leaves the shape.
use Rattle.std.proofs.Common.{◌≡◌, ℕ, zero, suc, ◌<◌, ◌≤◌, List, [], ◌∷◌, ◌++◌, length, take, Ok, refl, sym, ap, subst, ◌∙◌, append_assoc, arith, length-append}
use Rattle.std.proofs.lemmas.List.{take_at}
use Rattle.lois_reader.specs.Draft.{AnswerDraft, IsAnswerDraft}
use Rattle.lois_reader.specs.Draft as draft
use Rattle.lois_reader.specs.Pieces.{answer_pieces}
use Rattle.lois_reader.specs.Shape.{text_of_pieces, HasResultsShape, HasAnswerShape, BeginsShape, LeavesShapeAt}
use Rattle.lois_reader.specs.Reading.{End}
use Rattle.lois_reader.specs.AnswerEnds.{results_text_end, answer_text_end}
use Rattle.lois_reader.proofs.AnswerFronts.{results_front, results_text_front, results_rest_is}
use Rattle.lois_reader.proofs.TraceFronts.{trace_rest_is, trace_front, answer_ends_one, answer_ends_two}
use Rattle.lois_reader.proofs.Backs.{no_ok}
use Rattle.lois_reader.proofs.Exact.{Refused}

-- ---- texts of the shape are accepted

pub results_accepted : (s : List ℕ) → HasResultsShape s → results_text_end s ≡ Ok []
results_accepted s h = subst (λ (t : List ℕ). results_text_end t ≡ Ok []) h.1.spelled (results_text_front h.0 h.1.form)

answer_front : (a : AnswerDraft) → IsAnswerDraft a → answer_text_end (text_of_pieces (answer_pieces a)) ≡ Ok []
answer_front (draft.results d) form = ap (λ ps. answer_text_end (text_of_pieces ps)) (results_rest_is d) ∙ answer_ends_one _ (results_front d form)
answer_front (draft.trace t) form = ap (λ ps. answer_text_end (text_of_pieces ps)) (trace_rest_is t) ∙ answer_ends_two _ (trace_front t form)

pub answer_accepted : (s : List ℕ) → HasAnswerShape s → answer_text_end s ≡ Ok []
answer_accepted s h = subst (λ (t : List ℕ). answer_text_end t ≡ Ok []) h.1.spelled (answer_front h.0 h.1.form)

-- ---- where a refused text leaves the shape

-- more of a text than its front has the next byte
take_past : (front : List ℕ) (b : ℕ) (t : List ℕ) (m : ℕ) → length front < m → (u : List ℕ) × (take m (front ++ (b ∷ t)) ≡ front ++ (b ∷ u))
take_past front b t zero lt = absurd (omega arith)
take_past [] b t (suc m) lt = (take m t, refl)
take_past (c ∷ front) b t (suc m) lt = let u = take_past front b t m (omega arith) in (u.0, ap (λ (x : List ℕ). c ∷ x) u.1)

module _ (ends : List ℕ → End) (Shape : List ℕ → Type 0) (spelled : (s : List ℕ) → ends s ≡ Ok [] → Shape s) (accepted : (s : List ℕ) → Shape s → ends s ≡ Ok []) where
  no_longer : (text : List ℕ) (h : Refused ends text) (rest : List ℕ) → h.rest ≡ rest → (m : ℕ) → length h.front < m → m ≤ length text → BeginsShape Shape (take m text) → ⊥
  no_longer text h [] is m lt le begun = omega (arith, ap length h.split, length-append h.front h.rest, ap length is)
  no_longer text h (b ∷ t) is m lt le begun =
      let u = take_past h.front b t m lt in
      let whole : take m text ++ begun.0 ≡ h.front ++ (b ∷ (u.0 ++ begun.0)) =
      ap (λ (x : List ℕ). take m x ++ begun.0) (h.split ∙ ap (λ (x : List ℕ). h.front ++ x) is)
      ∙ ap (λ (x : List ℕ). x ++ begun.0) u.1
      ∙ append_assoc h.front (b ∷ u.0) begun.0 in
      no_ok (sym (h.stays b t (u.0 ++ begun.0) is) ∙ sym (ap ends whole) ∙ accepted (take m text ++ begun.0) begun.1)

  pub leaves_at : (text : List ℕ) (h : Refused ends text) → LeavesShapeAt Shape text (length h.front)
  leaves_at text h = record {
    outside = λ shape. no_ok (sym h.left ∙ accepted text shape);
    within = omega (arith, ap length h.split, length-append h.front h.rest);
    begins = (h.more, subst Shape (ap (λ (x : List ℕ). x ++ h.more) (sym (front_is text h))) (spelled (h.front ++ h.more) h.goes_on));
    longest = no_longer text h h.rest refl;
  }
    where
      front_is : (text : List ℕ) (h : Refused ends text) → take (length h.front) text ≡ h.front
      front_is text h = ap (take (length h.front)) h.split ∙ take_at h.front h.rest (length h.front) refl
