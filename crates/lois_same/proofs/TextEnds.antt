-- Texts and lists of names, from an index on.
use Rattle.std.proofs.Common.{◌≡◌, ℕ, suc, ◌+◌, ◌-◌, ◌<◌, Bool, true, false, not, ◌↔◌, nat_eq, List, ◌∷◌, length, take, drop, get_or, refl, sym, ap, subst, ◌∙◌, arith, if◌then◌else◌}
use Rattle.std.specs.List.{starts_with}
use Rattle.std.proofs.lemmas.List.{drop_more, take_rest}
use Rattle.lois_same.specs.TwoTexts.{end_mark, first_length}

-- no end mark begins here
not_here : (b : ℕ) (bs : List ℕ) → starts_with nat_eq (b ∷ bs) end_mark ≡ false → first_length (b ∷ bs) ≡ suc (first_length bs)
not_here b bs e = ap (λ z. if z then (length end_mark) else (suc (first_length bs))) e

pub end_further : (text : List ℕ) (i : ℕ) → i < length text → starts_with nat_eq (take (length text - i) (drop i text)) end_mark ≡ false → first_length text ≡ i + first_length (drop i text) → first_length text ≡ (i + 1) + first_length (drop (i + 1) text)
end_further text i l absent so_far =
    let here : drop i text ≡ get_or text i 0 ∷ drop (i + 1) text = drop_more text i 0 l in
    let not_at : starts_with nat_eq (get_or text i 0 ∷ drop (i + 1) text) end_mark ≡ false = subst (λ z. starts_with nat_eq z end_mark ≡ false) (take_rest text i ∙ here) absent in
    let next : first_length (drop i text) ≡ suc (first_length (drop (i + 1) text)) = ap first_length here ∙ not_here (get_or text i 0) (drop (i + 1) text) not_at in
    omega (arith, so_far, next)

pub not_false : (b : Bool) → not b ≡ false → b ≡ true
not_false true e = refl
not_false false e = cc

tails : {X : Type 0} (x y : X) (xs ys : List X) → x ∷ xs ≡ y ∷ ys → xs ≡ ys
tails x y xs ys e = cc

-- lists that have equal items at an index: what is known from there on is known behind it
pub equal_further : {X : Type 0} (P : Type 0) (xs ys : List X) (i : ℕ) (x y : X) → i < length xs → i < length ys → x ≡ get_or xs i x → y ≡ get_or ys i y → x ≡ y → (P ↔ (drop i xs ≡ drop i ys)) → P ↔ (drop (i + 1) xs ≡ drop (i + 1) ys)
equal_further P xs ys i x y l m is was same so_far =
    let here : drop i xs ≡ x ∷ drop (i + 1) xs = drop_more xs i x l ∙ ap (λ z. z ∷ drop (i + 1) xs) (sym is) in
    let there : drop i ys ≡ y ∷ drop (i + 1) ys = drop_more ys i y m ∙ ap (λ z. z ∷ drop (i + 1) ys) (sym was) in (
      λ p. tails x y (drop (i + 1) xs) (drop (i + 1) ys) (sym here ∙ (so_far.0 p ∙ there)),
      λ e. so_far.1 (here ∙ (ap (λ z. x ∷ z) e ∙ (ap (λ z. z ∷ drop (i + 1) ys) same ∙ sym there))),
    )
