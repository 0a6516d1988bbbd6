-- A list parted at one of its items.
use Rattle.std.proofs.Common.{◌≡◌, ℕ, zero, suc, ◌+◌, ◌-◌, ◌<◌, ◌≤◌, List, [], ◌∷◌, ◌++◌, length, map, take, drop, get_or, sym, ap, subst, ◌∙◌, arith}
use Rattle.std.specs.List.{All}
use Rattle.std.proofs.lemmas.List.{length-map, length-take-le, take-append-drop, take_all, drop_more, take_rest, map-append}
use Rattle.std.proofs.lemmas.List.Elements.{All-head, All-tail, All-map}

module _ {X Y : Type 0} (f : X → Y) where
  -- the images before an item, its own, and those behind it
  pub parted_at : (xs : List X) (i : ℕ) (x : X) → i < length xs → x ≡ get_or xs i x → map f xs ≡ map f (take i xs) ++ f x ∷ map f (drop (i + 1) xs)
  parted_at xs i x l e =
      ap (map f) (sym (take-append-drop i xs) ∙ ap (λ z. take i xs ++ z) (drop_more xs i x l ∙ ap (λ z. z ∷ drop (i + 1) xs) (sym e))) ∙ map-append f (take i xs) (x ∷ drop (i + 1) xs)

  pub count_before : (xs : List X) (i : ℕ) → i < length xs → i ≡ length (map f (take i xs))
  count_before xs i l = sym (length-map (take i xs) f ∙ length-take-le i xs (omega (arith, l)))

  -- the images of a slice from an index on
  pub rest_from : (xs : List X) (n : ℕ) → map f (take (length xs - n) (drop n xs)) ≡ map f (drop n xs)
  rest_from xs n = ap (map f) (take_rest xs n)

  module _ (P : Y → Type 0) where
    at_index : (xs : List X) (i : ℕ) (x : X) → i < length xs → All P (map f xs) → P (f (get_or xs i x))
    at_index [] i x l h = absurd (omega arith)
    at_index (y ∷ xs) zero x l h = All-head P (f y) (map f xs) h
    at_index (y ∷ xs) (suc i) x l h = at_index xs i x (omega arith) (All-tail P (f y) (map f xs) h)

    -- what holds of all items of a slice holds of each, and of those behind it
    pub of_each : (xs : List X) (i : ℕ) (x : X) → i < length xs → x ≡ get_or xs i x → All P (map f xs) → P (f x)
    of_each xs i x l e h = subst (λ z. P (f z)) (sym e) (at_index xs i x l h)

    behind : (xs : List X) (n : ℕ) → All P (map f xs) → All P (map f (drop n xs))
    behind xs zero h = h
    behind [] (suc n) h = h
    behind (x ∷ xs) (suc n) h = behind xs n (All-tail P (f x) (map f xs) h)

    pub of_rest : (xs : List X) (n : ℕ) → All P (map f xs) → All P (map f (take (length xs - n) (drop n xs)))
    of_rest xs n h = subst (All P) (sym (rest_from xs n)) (behind xs n h)

    pub each : (xs : List X) → All P (map f xs) → All (λ x. P (f x)) xs
    each xs h = λ i x l. at_index xs i x l h

    -- what holds of all items up to the end holds of all
    pub of_all : (xs : List X) (i : ℕ) → length xs ≤ i → All (λ x. P (f x)) (take i xs) → All P (map f xs)
    of_all xs i l h = All-map P f xs (subst (All (λ x. P (f x))) (take_all i xs l) h)
