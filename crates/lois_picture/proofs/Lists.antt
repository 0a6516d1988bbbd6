-- Lists that are made item by item from the items of a slice.
use Rattle.std.proofs.Common.{◌≡◌, ℕ, ◌+◌, ◌<◌, List, [], ◌∷◌, ◌++◌, length, get_or, take, map, sym, ap, ◌∙◌, subst}
use Rattle.std.proofs.lemmas.List.{map-append}
use Rattle.std.proofs.lemmas.List.Elements.{All-push}
use Rattle.std.specs.List.{All}
use Rattle.lois_base.proofs.Viewed.{one_more}

module _ {X Y Z : Type 0} (f : X → Z) (h : Y → Z) where
  -- one more item was put in, which has the same view as one more item of the slice
  pub made_more : (xs : List X) (i : ℕ) (x : X) (before after : List Y) (y : Y) → i < length xs → x ≡ get_or xs i x → map h before ≡ map f (take i xs) → after ≡ before ++ y ∷ [] → h y ≡ f x → map h after ≡ map f (take (i + 1) xs)
  made_more xs i x before after y l is so_far pushed same =
      ap (map h) pushed ∙ (map-append h before (y ∷ []) ∙ (ap (λ z. z ++ h y ∷ []) so_far ∙ (ap (λ z. map f (take i xs) ++ z ∷ []) same ∙ sym (one_more f xs i x l is))))

pub all_more : {Y : Type 0} (P : Y → Type 0) (before after : List Y) (y : Y) → All P before → after ≡ before ++ y ∷ [] → P y → All P after
all_more P before after y so_far pushed h = subst (All P) (sym pushed) (All-push P before y so_far h)
