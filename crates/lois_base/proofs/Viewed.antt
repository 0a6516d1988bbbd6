-- Lists that a loop goes through, item by item, also where they are seen through a view.
use Rattle.std.proofs.Common.{◌≡◌, ℕ, suc, ◌+◌, ◌<◌, ◌≤◌, List, [], ◌∷◌, ◌++◌, length, get_or, take, drop, map, drop-cons, sym, ap, ◌∙◌, subst, arith}
use Rattle.std.proofs.lemmas.List.{take_all, take_more, map-append, get_or-map, get_or_default, length-map}
use Rattle.std.specs.List.{All, Contains, HoldsAt}

-- what is left of a list at an item
pub rest_is : {X : Type 0} (xs : List X) (i : ℕ) (x : X) → i < length xs → x ≡ get_or xs i x → drop i xs ≡ x ∷ drop (i + 1) xs
rest_is xs i x l is =
    let next : suc i ≡ i + 1 = omega arith in
    drop-cons xs i x l ∙ ap (λ y. y ∷ drop (suc i) xs) (sym is) ∙ ap (λ j. x ∷ drop j xs) next

pub rest_at : {X : Type 0} (xs : List X) (i : ℕ) (d : X) → i < length xs → drop i xs ≡ get_or xs i d ∷ drop (i + 1) xs
rest_at xs i d l =
    let next : suc i ≡ i + 1 = omega arith in
    drop-cons xs i d l ∙ ap (λ j. get_or xs i d ∷ drop j xs) next

module _ {X Y : Type 0} (f : X → Y) where
  -- the items before an index, and one more
  pub one_more : (xs : List X) (i : ℕ) (x : X) → i < length xs → x ≡ get_or xs i x → map f (take (i + 1) xs) ≡ map f (take i xs) ++ f x ∷ []
  one_more xs i x l e =
      ap (map f) (take_more xs i x l) ∙ (map-append f (take i xs) (get_or xs i x ∷ []) ∙ ap (λ z. map f (take i xs) ++ f z ∷ []) (sym e))

  -- all items have been seen
  pub all_taken : (xs : List X) (vs : List Y) (i : ℕ) → map f xs ≡ vs → length xs ≤ i → map f (take i xs) ≡ vs
  all_taken xs vs i m l = ap (map f) (take_all i xs l) ∙ m

  pub contains_item : (xs : List X) (vs : List Y) (i : ℕ) (x : X) → map f xs ≡ vs → i < length xs → x ≡ get_or xs i x → Contains vs (f x)
  contains_item xs vs i x m l e =
      subst (λ us. Contains us (f x)) m (i, omega (arith, length-map xs f), get_or-map f xs i x (f x) l ∙ ap f (sym e))

  -- what is true of all items is true of one of them
  pub item_has : (P : Y → Type 0) (xs : List X) (vs : List Y) (i : ℕ) (x : X) → map f xs ≡ vs → i < length xs → x ≡ get_or xs i x → All P vs → P (f x)
  item_has P xs vs i x m l e h =
      subst P (get_or-map f xs i x (f x) l ∙ ap f (sym e)) (subst (All P) (sym m) h i (f x) (omega (arith, length-map xs f)))

  -- an item as the view has it
  pub item_at : (xs : List X) (vs : List Y) (i : ℕ) (x : X) → map f xs ≡ vs → i < length xs → x ≡ get_or xs i x → f x ≡ get_or vs i (f x)
  item_at xs vs i x m l e =
      subst (λ us. f x ≡ get_or us i (f x)) m (sym (get_or-map f xs i x (f x) l ∙ ap f (sym e)))

  -- what is true of an item is true of it as the view has it
  pub item_there : (P : Y → Type 0) (xs : List X) (vs : List Y) (i : ℕ) (x : X) → map f xs ≡ vs → i < length xs → x ≡ get_or xs i x → P (f x) → (i < length vs) × HoldsAt P vs i
  item_there P xs vs i x m l e h =
      let within : i < length vs = omega (arith, l, length-map xs f, ap length m) in
      (within, λ d. subst P (item_at xs vs i x m l e ∙ get_or_default vs i (f x) d within) h)

  -- a list that was mapped so far, and one more
  pub mapped_more : {Z : Type 0} (g : Y → Z) (xs : List X) (i : ℕ) (x : X) (before after : List Z) (z : Z) → after ≡ before ++ z ∷ [] → z ≡ g (f x) → before ≡ map g (map f (take i xs)) → i < length xs → x ≡ get_or xs i x → after ≡ map g (map f (take (i + 1) xs))
  mapped_more g xs i x before after z pushed is so_far l e =
      pushed ∙ (ap (λ y. before ++ y ∷ []) is ∙ (ap (λ y. y ++ g (f x) ∷ []) so_far ∙ (sym (map-append g (map f (take i xs)) (f x ∷ [])) ∙ sym (ap (map g) (one_more xs i x l e)))))
