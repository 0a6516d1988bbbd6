-- A text that is none of a kind is so at one place.
use Rattle.std.proofs.Common.{◌≡◌, ℕ, List, Some, sym, ◌∙◌, ⊎_elim, subst, arith}
use Rattle.std.proofs.lemmas.Bool.{cases_lt}
use Rattle.lois_lexer.specs.declared.Place.{Place}
use Rattle.lois_answers.specs.declared.results.Results.{Results}
use Rattle.lois_reader.proofs.Determined.{results_are_told}
use Rattle.lois_reader.specs.Pieces.{Piece, results_pieces}
use Rattle.lois_reader.specs.Refusal.{IsResultsOf}
use Rattle.lois_reader.specs.Shape.{HasResultsShape, SpellsResults, LeavesShapeAt}
use Rattle.lois_command.specs.NoResults.{IsNoneAt, IsAtPlace, IsNoResults, IsNoResultsAt}
use Rattle.lois_command.specs.Places.{IsPlaceOf}

pub one_place : (text : List ℕ) (at : ℕ) (p q : Place) → IsPlaceOf text at p → IsPlaceOf text at q → p ≡ q
one_place text at p q a b = λ i. record { line = (a.line ∙ sym b.line) i; column = (a.column ∙ sym b.column) i }

module _ (text : List ℕ) where
  module _ {V D : Type 0} (Holds : V → Type 0) (Shape : List ℕ → Type 0) (SpelledBy : List ℕ → D → Type 0) (pieces : D → List Piece) where
    left_once : (k m : ℕ) → LeavesShapeAt Shape text k → LeavesShapeAt Shape text m → k ≡ m
    left_once k m h g =
        ⊎_elim (λ less. absurd (h.longest m less g.within g.begins))
        (λ most. ⊎_elim (λ less. absurd (g.longest k less h.within h.begins)) (λ least. omega arith) (cases_lt m k)) (cases_lt k m)

    some_once : (k m : ℕ) → Some k ≡ Some m → k ≡ m
    some_once k m e = cc e

    pub one_end : (has_shape : (d : D) → SpelledBy text d → Shape text) (k m : ℕ) → IsNoneAt Holds Shape SpelledBy pieces text k → IsNoneAt Holds Shape SpelledBy pieces text m → k ≡ m
    one_end has_shape k m h g =
        ⊎_elim
        (λ left. ⊎_elim (λ leaves. left_once k m left leaves) (λ breaks. absurd (left.outside (has_shape breaks.draft breaks.spelled))) g.place)
        (λ broken. ⊎_elim (λ leaves. absurd (leaves.outside (has_shape broken.draft broken.spelled))) (λ breaks. some_once k m (sym (broken.first broken.draft broken.spelled) ∙ breaks.first broken.draft broken.spelled)) g.place)
        h.place

  pub at_once : (At : List ℕ → ℕ → Type 0) → ((k m : ℕ) → At text k → At text m → k ≡ m) → (p q : Place) → IsAtPlace At text p → IsAtPlace At text q → q ≡ p
  at_once At once p q (k, none, here) (m, never, there) = one_place text k q p (subst (λ x. IsPlaceOf text x q) (once m k never none) there) here

  pub same_results : (p q : Place) → IsNoResults text p → IsNoResults text q → q ≡ p
  same_results = at_once IsNoResultsAt (one_end (IsResultsOf text) HasResultsShape SpellsResults results_pieces (λ d h. (d, h)))

  -- a text spells one list of results at most
  pub results_once : (r s : Results) → IsResultsOf text r → IsResultsOf text s → r ≡ s
  results_once r s h g = results_are_told r s h.0 g.0 (h.1 ∙ sym g.1)
