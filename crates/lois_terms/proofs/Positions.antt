-- The positions of a number in a list, and a table that has them.
use Rattle.std.proofs.Common.{◌≡◌, ℕ, zero, suc, ◌+◌, ◌<◌, ◌==◌, Bool, true, false, if◌then◌else◌, List, [], ◌∷◌, ◌++◌, length, map, nat_eq, eqb, refl, sym, ap, ◌∙◌, subst, arith}
use Rattle.std.proofs.lemmas.Bool.{eq-eqb, eqb-true}
use Rattle.std.proofs.lemmas.List.{append_assoc, append-nil}
use Rattle.std.proofs.lemmas.List.Elements.{All-nil, All-cons, All-append, All-contains, Contains-append_left, Contains-append_right}
use Rattle.std.proofs.lemmas.Option.{none-some, same_Some, slice_get-get_or, slice_get-map}
use Rattle.smallvec.specs.SmallVec.{SmallVec}
use Rattle.std.specs.Prelude.{Option, Some, option_map, slice_get, Contains}
use Rattle.std.specs.List.{All}
use Rattle.lois_terms.specs.Positions.{positions_from, positions_of, listed}

module _ (x : ℕ) where
  found_from : (k : ℕ) (ys : List ℕ) (i n : ℕ) → slice_get ys i ≡ Some x → n ≡ k + i → Contains (positions_from k x ys) n
  found_from k [] i n e at = absurd (none-some x e)
  found_from k (y ∷ ys) zero n e at =
      let b : eqb y x ≡ true = eq-eqb y x (same_Some y x e) in
      let k_is : k ≡ n = omega (arith, at) in
      subst (λ t. Contains ((if t then (k ∷ []) else []) ++ positions_from (suc k) x ys) n) (sym b)
      (Contains-append_left (k ∷ []) (positions_from (suc k) x ys) n (0, omega arith, k_is))
  found_from k (y ∷ ys) (suc i) n e at =
      Contains-append_right (if (y == x) then (k ∷ []) else []) (positions_from (suc k) x ys) n (found_from (suc k) ys i n e (omega (arith, at)))

  pub found_at : (ys : List ℕ) (i : ℕ) → slice_get ys i ≡ Some x → Contains (positions_of x ys) i
  found_at ys i e = found_from 0 ys i i e (omega arith)

  chosen_within : (k n : ℕ) (b : Bool) → k < n → All (λ i. i < n) (if b then (k ∷ []) else [])
  chosen_within k n true l = All-cons (λ i. i < n) k [] l (All-nil (λ i. i < n))
  chosen_within k n false l = All-nil (λ i. i < n)

  within_from : (k n : ℕ) (ys : List ℕ) → k + length ys ≡ n → All (λ i. i < n) (positions_from k x ys)
  within_from k n [] e = All-nil (λ i. i < n)
  within_from k n (y ∷ ys) e =
      All-append (λ i. i < n) (if (y == x) then (k ∷ []) else []) (positions_from (suc k) x ys) (chosen_within k n (y == x) (omega (arith, e))) (within_from (suc k) n ys (omega (arith, e)))

  pub all_within : (ys : List ℕ) → All (λ i. i < length ys) (positions_of x ys)
  all_within ys = within_from 0 (length ys) ys (omega arith)

  pushed_from : (k n y : ℕ) (ys : List ℕ) → k + length ys ≡ n → positions_from k x (ys ++ y ∷ []) ≡ positions_from k x ys ++ (if (y == x) then (n ∷ []) else [])
  pushed_from k n y [] e =
      let k_is : k ≡ n = omega (arith, e) in
      append-nil (if (y == x) then (k ∷ []) else []) ∙ ap (λ m. if (y == x) then (m ∷ []) else []) k_is
  pushed_from k n y (z ∷ ys) e =
      ap (λ ps. (if (z == x) then (k ∷ []) else []) ++ ps) (pushed_from (suc k) n y ys (omega (arith, e)))
      ∙ sym (append_assoc (if (z == x) then (k ∷ []) else []) (positions_from (suc k) x ys) (if (y == x) then (n ∷ []) else []))

  pub pushed_of : (y : ℕ) (ys : List ℕ) → positions_of x (ys ++ y ∷ []) ≡ positions_of x ys ++ (if (y == x) then (length ys ∷ []) else [])
  pushed_of y ys = pushed_from 0 (length ys) y ys (omega arith)

-- a table with one number more, whose positions got one more
module _ (was found : ℕ → Option (SmallVec ℕ)) (ys : List ℕ) (y : ℕ) where
  pub table_pushed : listed (found y) ≡ listed (was y) ++ length ys ∷ [] → ((q : ℕ) → nat_eq y q ≡ false → found q ≡ was q) → ((x : ℕ) → listed (was x) ≡ positions_of x ys) → (x : ℕ) → listed (found x) ≡ positions_of x (ys ++ y ∷ [])
  table_pushed is others holds x = by (nat_eq y x) refl
    where
      by : (b : Bool) → nat_eq y x ≡ b → listed (found x) ≡ positions_of x (ys ++ y ∷ [])
      by true e =
          ap (λ z. listed (found z)) (sym (eqb-true y x e))
          ∙ is
          ∙ ap (λ z. listed (was z) ++ length ys ∷ []) (eqb-true y x e)
          ∙ ap (λ ps. ps ++ length ys ∷ []) (holds x)
          ∙ ap (λ b. positions_of x ys ++ (if b then (length ys ∷ []) else [])) (sym e)
          ∙ sym (pushed_of x y ys)
      by false e =
          ap listed (others x e)
          ∙ holds x
          ∙ sym (append-nil (positions_of x ys))
          ∙ ap (λ b. positions_of x ys ++ (if b then (length ys ∷ []) else [])) (sym e)
          ∙ sym (pushed_of x y ys)

-- what stands in a list, and where
module _ {X : Type 0} (f : X → ℕ) (xs : List X) (x : X) where
  pub nowhere_in : All (λ i. slice_get xs i ≡ Some x → ⊥) (positions_of (f x) (map f xs)) → Contains xs x → ⊥
  nowhere_in none (i, l, e) =
      let here : slice_get xs i ≡ Some x = slice_get-get_or xs i x l ∙ ap Some e in
      let hash : slice_get (map f xs) i ≡ Some (f x) = slice_get-map f xs i ∙ ap (option_map f) here in
      All-contains (λ i. slice_get xs i ≡ Some x → ⊥) (positions_of (f x) (map f xs)) i none (found_at (f x) (map f xs) i hash) here
