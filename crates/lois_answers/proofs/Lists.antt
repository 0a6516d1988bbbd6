-- What a fact about all items of a list, or about one of them, says of what is left of the list.
use Rattle.std.proofs.Common.{◌≡◌, ℕ, zero, suc, ◌+◌, ◌<◌, ◌≤◌, List, [], ◌∷◌, length, map, drop, get_or, ◌↔◌, sym, subst, arith, add-one}
use Rattle.std.specs.List.{All}
use Rattle.std.proofs.lemmas.List.Elements.{All-head, All-tail, All-cons, All-same, All-nil}
use Rattle.std.proofs.lemmas.List.{drop_all}

module _ {X Y : Type 0} (P : Y → Type 0) (f : X → Y) where
  all_split : (xs : List X) (i : ℕ) (x : X) → i < length xs → x ≡ get_or xs i x → All P (map f (drop i xs)) → P (f x) × All P (map f (drop (suc i) xs))
  all_split [] i x l e h = absurd (omega arith)
  all_split (y ∷ xs) zero x l e h =
      (subst (λ z. P (f z)) (sym e) (All-head P (f y) (map f xs) h), All-tail P (f y) (map f xs) h)
  all_split (y ∷ xs) (suc i) x l e h = all_split xs i x (omega arith) e h

  all_whole : (xs : List X) (i : ℕ) (x : X) → i < length xs → x ≡ get_or xs i x → P (f x) → All P (map f (drop (suc i) xs)) → All P (map f (drop i xs))
  all_whole [] i x l e p h = absurd (omega arith)
  all_whole (y ∷ xs) zero x l e p h = All-cons P (f y) (map f xs) (subst (λ z. P (f z)) e p) h
  all_whole (y ∷ xs) (suc i) x l e p h = all_whole xs i x (omega arith) e p h

  -- the first of what is left, and the rest
  pub all_step : (xs : List X) (i : ℕ) (x : X) → i < length xs → x ≡ get_or xs i x → All P (map f (drop i xs)) ↔ (P (f x) × All P (map f (drop (i + 1) xs)))
  all_step xs i x l e =
      rw add-one (λ h. all_split xs i x l e h, λ h. all_whole xs i x l e h.0 h.1)

  pub all_begin : (xs : List X) (ys : List Y) → map f xs ≡ ys → All P ys ↔ All P (map f xs)
  all_begin xs ys e = (λ h. All-same P (map f xs) ys e h, λ h. All-same P ys (map f xs) (sym e) h)

  -- nothing is left
  pub all_end : (xs : List X) (i : ℕ) → length xs ≤ i → All P (map f (drop i xs))
  all_end xs i l = subst (λ zs. All P (map f zs)) (sym (drop_all i xs l)) (All-nil P)
