-- Items of lists.
use Rattle.std.proofs.Common.{◌≡◌, inl, inr, List, [], ◌∷◌, ◌++◌, subst, arith, ℕ, zero, suc, ◌<◌, length, get_or, take, drop, map, sym, ap}
use Rattle.std.specs.List.{All, Contains}
use Rattle.std.proofs.lemmas.List.Elements.{All-contains, Contains-append_left, Contains-append_right, Contains-push}
use Rattle.lois_base.proofs.Validity.{all_that_are}
use Rattle.lois_context.proofs.Later.{first_or_later}

pub only_one : {X : Type 0} (x y : X) → Contains (x ∷ []) y → x ≡ y
only_one x y h = elim (first_or_later x [] y h) [ inl e ↦ e | inr later ↦ absurd (omega (arith, later.1)) ]

pub of_one : {X : Type 0} (P : X → Type 0) (x : X) → All P (x ∷ []) → P x
of_one P x h = All-contains P (x ∷ []) x h (Contains-push [] x)

pub all_left : {X : Type 0} (P : X → Type 0) (xs ys : List X) → All P (xs ++ ys) → All P xs
all_left P xs ys h = all_that_are P xs (λ x there. All-contains P (xs ++ ys) x h (Contains-append_left xs ys x there))

-- the items before an index, the item there, and those behind it
pub split_at : {X Y : Type 0} (f : X → Y) (xs : List X) (i : ℕ) (x : X) → i < length xs → x ≡ get_or xs i x → map f xs ≡ map f (take i xs) ++ f x ∷ map f (drop (suc i) xs)
split_at f [] i x l e = absurd (omega arith)
split_at f (y ∷ xs) zero x l e = ap (λ z. f z ∷ map f xs) (sym e)
split_at f (y ∷ xs) (suc i) x l e = ap (λ z. f y ∷ z) (split_at f xs i x (omega arith) e)
