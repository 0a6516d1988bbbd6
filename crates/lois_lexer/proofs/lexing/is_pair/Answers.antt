use Rattle.std.proofs.Common.{◌≡◌, ℕ, ◌∷◌, [], ◌||◌, ◌==◌, ◌⊎◌, ⊎_elim, inl, inr, subst, sym}
use Rattle.std.specs.Prelude.{Contains}
use Rattle.std.proofs.lemmas.Bool.{eqb-true, and_parts, or_cases, false≢true}
use Rattle.lois_lexer.specs.Words.{symbols}
use Rattle.lois_lexer.proofs.Forms.{is_pair, pair_from}
use Rattle.lois_lexer.proofs.lexing.is_pair.Goals as goal

-- how a symbol of two bytes begins
first_from : (first second : ℕ) → Contains symbols (first ∷ second ∷ []) → (first ≡ 58) ⊎ (first ≡ 33)
first_from first second h =
    ⊎_elim (λ e. inl (eqb-true first 58 e)) (λ e. inr (eqb-true first 33 e))
    (or_cases (first == 58) (first == 33) (and_parts (first == 58 || first == 33) (second == 61) (pair_from first second h)).0)

pub returns-then-first-ne33 : goal.returns-then-first-ne33
returns-then-first-ne33 c = (λ e. absurd (false≢true e), λ h. absurd (⊎_elim c.if-first-ne58.true c.if-first-ne33.true (first_from c.args.first c.args.second h)))

pub returns : goal.returns
returns c =
    let first = c.args.first in
    let second = c.args.second in
    let either : (first ≡ 58) ⊎ (first ≡ 33) = ⊎_elim (λ e. inr e.1) (λ e. inl e) c.else-first-ne58.either in (
      λ e. subst (λ (s : ℕ). Contains symbols (first ∷ s ∷ [])) (sym (eqb-true second 61 e)) (is_pair first either),
      λ h. (and_parts (first == 58 || first == 33) (second == 61) (pair_from first second h)).1,
    )
