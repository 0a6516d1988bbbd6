-- Rows of what is known of pairs of items, as loops put them together.
use Rattle.std.proofs.Common.{◌≡◌, ℕ, zero, suc, ◌+◌, ◌⊎◌, inl, inr, Some, List, [], ◌∷◌, ◌++◌, length, length-append, refl, sym, ap, ◌∙◌, subst, arith}
use Rattle.std.proofs.lemmas.List.Elements.{All-push, All-contains}
use Rattle.std.specs.Global.{Vec}
use Rattle.std.specs.Prelude.{slice_get}
use Rattle.lois_base.specs.Data.{CompD}
use Rattle.lois_base.specs.FormulaView.{view}
use Rattle.lois_base.proofs.Lists.{same_item}
use Rattle.lois_relate.specs.declared.comparing.Pair.{Pair}
use Rattle.lois_relate.specs.Compared.{DefinesPaired, SaysPaired, IsCached, IsRow, AreRows}

module _ {X : Type 0} (y : X) where
  -- an item of a list that has grown by one is an old one or the new one
  got_pushed : (xs : List X) (i : ℕ) (x : X) → slice_get (xs ++ y ∷ []) i ≡ Some x → (slice_get xs i ≡ Some x) ⊎ ((i ≡ length xs) × (y ≡ x))
  got_pushed [] zero x h = inr (refl, cc)
  got_pushed [] (suc i) x h = absurd (cc)
  got_pushed (z ∷ xs) zero x h = inl h
  got_pushed (z ∷ xs) (suc i) x h = elim (got_pushed xs i x h) [ inl p ↦ inl p | inr p ↦ inr (ap suc p.0, p.1) ]

pub one_longer : {X : Type 0} (xs : List X) (x : X) (ys : List X) (i : ℕ) → length xs ≡ i → ys ≡ xs ++ x ∷ [] → length ys ≡ i + 1
one_longer xs x ys i l e = omega (arith, ap length e, length-append xs (x ∷ []))

-- ---- one more
module _ (n : ℕ) (ks : List CompD) (tn : List ℕ) (qs : List CompD) (sn : List ℕ) where
  pub rows_more : (rows rows' : List (Vec Pair)) (i : ℕ) (k : CompD) (row : Vec Pair) → AreRows n ks tn qs sn rows → length rows ≡ i → slice_get ks i ≡ Some k → rows' ≡ rows ++ row ∷ [] → IsRow n k tn qs sn row.items → AreRows n ks tn qs sn rows'
  rows_more rows rows' i k row so_far long at e is_row =
      subst (AreRows n ks tn qs sn) (sym e) (λ j k' row' at' r. pick j k' row' at' (got_pushed row rows j row' r))
    where
      pick : (j : ℕ) (k' : CompD) (row' : Vec Pair) → slice_get ks j ≡ Some k' → (slice_get rows j ≡ Some row') ⊎ ((j ≡ length rows) × (row ≡ row')) → IsRow n k' tn qs sn row'.items
      pick j k' row' at' (inl r) = so_far j k' row' at' r
      pick j k' row' at' (inr (p, q)) =
          let item : k ≡ k' = same_item k k' (sym at ∙ ap (slice_get ks) (sym (p ∙ long)) ∙ at') in
          subst (λ z. IsRow n z tn qs sn row'.items) item (subst (λ r. IsRow n k tn qs sn r.items) q is_row)

  -- what all rows say of the comprehension at one place
  pub rows_known : (rows : List (Vec Pair)) (j : ℕ) (q : CompD) → AreRows n ks tn qs sn rows → slice_get qs j ≡ Some q → IsCached n ks tn q sn rows j
  rows_known rows j q are at i k f here (row, r, p, inside, place, is) =
      let says = All-contains (SaysPaired n k tn qs sn) row.items p (are i k row here r) inside in
      subst (DefinesPaired n sn q tn k) is (says q (ap (slice_get qs) place ∙ at))

module _ (n : ℕ) (k : CompD) (tn : List ℕ) (qs : List CompD) (sn : List ℕ) where
  pub row_more : (row row' : List Pair) (p : Pair) (q : CompD) → IsRow n k tn qs sn row → slice_get qs p.place ≡ Some q → row' ≡ row ++ p ∷ [] → DefinesPaired n sn q tn k (view p.there) → IsRow n k tn qs sn row'
  row_more row row' p q so_far at e says =
      subst (IsRow n k tn qs sn) (sym e) (All-push (SaysPaired n k tn qs sn) row p so_far (λ q' at'. subst (λ z. DefinesPaired n sn z tn k (view p.there)) (same_item q q' (sym at ∙ at')) says))
