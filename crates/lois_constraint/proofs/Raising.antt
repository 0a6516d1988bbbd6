-- Tables with one row more, and rows with the levels of another one.
use Rattle.std.proofs.Common.{◌≡◌, ◌≢◌, ℕ, ◌<◌, ◌≤◌, Bool, true, false, ◌||◌, ◌&&◌, ◌==◌, ◌⊎◌, inl, inr, List, [], ◌∷◌, ◌++◌, length, get_or, set, eqb, refl, sym, ◌∙◌, arith}
use Rattle.std.proofs.Math.ListN.{get_or-eq_default}
use Rattle.std.proofs.lemmas.Bool.{cases_order}
use Rattle.std.proofs.lemmas.Bool.Decides.{eqb_tells}
use Rattle.std.proofs.lemmas.List.{get_or_append_left, get_or_push, get_or-set_same, get_or-set_other}
use Rattle.lois_constraint.specs.Order.{Row, reaches, are_at_most}
use Rattle.lois_constraint.proofs.Words.{beyond, reaches_nothing}

-- ---- tables
-- raised: the rows, those below i with more levels above where they have the given one
module _ (rows raised : List Row) (level i : ℕ) (more : Row) where
  abbrev AboveKept : List Row → ℕ → Type 0
  AboveKept xs n = (a : ℕ) → n ≤ a → get_or xs a [] ≡ get_or rows a []

  abbrev BelowRaised : List Row → ℕ → Type 0
  BelowRaised xs n = (a b : ℕ) → a < n → are_at_most xs a b ≡ (are_at_most rows a b || (are_at_most rows a level && reaches more b))

  pub all_raised : length raised ≤ i → BelowRaised raised i → AboveKept raised i → (a b : ℕ) → are_at_most raised a b ≡ (are_at_most rows a b || (are_at_most rows a level && reaches more b))
  all_raised whole below above a b = go (cases_order a i)
    where
      past : i ≤ a → are_at_most raised a b ≡ (are_at_most rows a b || (are_at_most rows a level && reaches more b))
      past far =
          let none : get_or raised a [] ≡ [] = get_or-eq_default raised [] (omega arith) in
          let old : get_or rows a [] ≡ [] = sym (above a far) ∙ none in
          rw (none, old, reaches_nothing b, reaches_nothing level) refl

      go : (a ≡ i) ⊎ ((a < i) ⊎ (i < a)) → are_at_most raised a b ≡ (are_at_most rows a b || (are_at_most rows a level && reaches more b))
      go (inl at) = past (omega arith)
      go (inr (inl less)) = below a b less
      go (inr (inr far)) = past (omega arith)

pub no_row_more : (rows : List Row) (row : Row) (a b : ℕ) → reaches row b ≡ false → are_at_most (rows ++ row ∷ []) a b ≡ are_at_most rows a b
no_row_more rows row a b empty = go (cases_order a (length rows))
  where
    go : (a ≡ length rows) ⊎ ((a < length rows) ⊎ (length rows < a)) → are_at_most (rows ++ row ∷ []) a b ≡ are_at_most rows a b
    go (inl at) =
        let old : get_or rows a [] ≡ [] = get_or-eq_default rows [] (omega arith) in
        rw (get_or_push rows row [] a (sym at), old) (empty ∙ sym (reaches_nothing b))
    go (inr (inl less)) = rw (get_or_append_left rows (row ∷ []) [] a less) refl
    go (inr (inr far)) =
        let old : get_or rows a [] ≡ [] = get_or-eq_default rows [] (omega arith) in rw (beyond rows row [] a far, old) refl

module _ (rows : List Row) (level a b : ℕ) (more : Row) where
  stays : (p : Bool) → eqb a level ≡ false → p ≡ (p || (a == level && reaches more b))
  stays true e = refl
  stays false e = rw e refl

  pub row_pushed : length rows ≡ level → are_at_most (rows ++ more ∷ []) a b ≡ (are_at_most rows a b || (a == level && reaches more b))
  row_pushed l = go (cases_order a (length rows)) (eqb_tells a level)
    where
      go : (a ≡ length rows) ⊎ ((a < length rows) ⊎ (length rows < a)) → ((eqb a level ≡ true) × (a ≡ level)) ⊎ ((eqb a level ≡ false) × (a ≢ level)) → are_at_most (rows ++ more ∷ []) a b ≡ (are_at_most rows a b || (a == level && reaches more b))
      go (inl at) (inl t) =
          let old : get_or rows a [] ≡ [] = get_or-eq_default rows [] (omega arith) in
          rw (get_or_push rows more [] a (sym at), old, t.0, reaches_nothing b) refl
      go (inl at) (inr t) = absurd (t.1 (omega arith))
      go (inr (inl less)) (inl t) = let same = t.1 in absurd (omega arith)
      go (inr (inl less)) (inr t) =
          rw (get_or_append_left rows (more ∷ []) [] a less) (stays (are_at_most rows a b) t.0)
      go (inr (inr far)) (inl t) = let same = t.1 in absurd (omega arith)
      go (inr (inr far)) (inr t) =
          let old : get_or rows a [] ≡ [] = get_or-eq_default rows [] (omega arith) in
          rw (beyond rows more [] a far, old, t.0, reaches_nothing b) refl

  pub row_put : (r : Row) → level < length rows → reaches r b ≡ (reaches (get_or rows level []) b || reaches more b) → are_at_most (set rows level r) a b ≡ (are_at_most rows a b || (a == level && reaches more b))
  row_put r inside is = go (eqb_tells a level)
    where
      go : ((eqb a level ≡ true) × (a ≡ level)) ⊎ ((eqb a level ≡ false) × (a ≢ level)) → are_at_most (set rows level r) a b ≡ (are_at_most rows a b || (a == level && reaches more b))
      go (inl t) = rw (t.0, t.1, get_or-set_same rows level r [] inside) is
      go (inr t) = rw (get_or-set_other rows level a r [] t.1) (stays (are_at_most rows a b) t.0)
