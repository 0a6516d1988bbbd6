-- Guards, operands and binders as they are written.
use Rattle.std.proofs.Common.{◌≡◌, ℕ, zero, suc, ◌+◌, ◌-◌, ◌<◌, List, [], ◌∷◌, ◌++◌, refl, sym, ap, ◌∙◌, subst, append_assoc, codes, arith}
use Rattle.std.specs.Prelude.{None, slice_index_or}
use Rattle.std.specs.List.{slice_get}
use Rattle.lois_base.specs.declared.guards.Lit.{Lit}
use Rattle.lois_answers.specs.TermText.{constraint_text, guard_text, level_text, levels_text}

-- a guard other than the constraint with one empty cube
pub guard_text_other : (parameters : List (List ℕ)) (g : List (List Lit)) → (g ≡ [] ∷ [] → ⊥) → guard_text parameters g ≡ codes " if " ++ constraint_text parameters g
guard_text_other parameters [] n = refl
guard_text_other parameters ([] ∷ []) n = absurd (n refl)
guard_text_other parameters ([] ∷ d ∷ g) n = refl
guard_text_other parameters ((l ∷ c) ∷ g) n = refl

pub past_the_end : (xs : List (List ℕ)) (i : ℕ) (d : List ℕ) → None ≡ slice_get xs i → slice_index_or xs i d ≡ d
past_the_end [] i d e = refl
past_the_end (x ∷ xs) zero d e = absurd (cc)
past_the_end (x ∷ xs) (suc i) d e = past_the_end xs i d e

levels_step : (n k : ℕ) (t t1 t2 : List ℕ) → t1 ≡ t ++ codes " " → t2 ≡ t1 ++ level_text n → t2 ++ levels_text (suc n) k ≡ t ++ levels_text n (suc k)
levels_step n k t t1 t2 e1 e2 =
    ap (λ z. z ++ levels_text (suc n) k) (e2 ∙ ap (λ z. z ++ level_text n) e1 ∙ append_assoc t (codes " ") (level_text n)) ∙
    append_assoc t (codes " " ++ level_text n) (levels_text (suc n) k)

-- one more binder is written
pub level_is_written : (n end : ℕ) (t t1 t2 all : List ℕ) → n < end → t1 ≡ t ++ codes " " → t2 ≡ t1 ++ level_text n → t ++ levels_text n (end - n) ≡ all → t2 ++ levels_text (n + 1) (end - (n + 1)) ≡ all
level_is_written n end t t1 t2 all l e1 e2 h =
    let next : n + 1 ≡ suc n = omega arith in
    let left : end - n ≡ suc (end - suc n) = omega arith in
    subst (λ k. t2 ++ levels_text k (end - k) ≡ all) (sym next)
    (levels_step n (end - suc n) t t1 t2 e1 e2 ∙ ap (λ k. t ++ levels_text n k) (sym left) ∙ h)
