-- A list that a mapped one is put behind, item by item.
use Rattle.std.proofs.Common.{◌≡◌, ℕ, ◌+◌, ◌<◌, List, [], ◌∷◌, ◌++◌, length, append_assoc, take, map, get_or, refl, ap, ◌∙◌}
use Rattle.lois_base.proofs.Viewed.{mapped_more}

-- a list behind another that was mapped so far, and one more
pub appended_more : {X Y Z : Type 0} (f : X → Y) (g : Y → Z) (xs : List X) (i : ℕ) (x : X) (start before after : List Z) (z : Z) → after ≡ before ++ z ∷ [] → z ≡ g (f x) → before ≡ start ++ map g (map f (take i xs)) → i < length xs → x ≡ get_or xs i x → after ≡ start ++ map g (map f (take (i + 1) xs))
appended_more f g xs i x start before after z pushed is so_far l e =
    let more = mapped_more f g xs i x (map g (map f (take i xs))) (map g (map f (take i xs)) ++ z ∷ []) z refl is refl l e in
    pushed ∙ (ap (λ y. y ++ z ∷ []) so_far ∙ (append_assoc start (map g (map f (take i xs))) (z ∷ []) ∙ ap (λ y. start ++ y) more))
