-- Contexts that are made by hand.
use Rattle.std.proofs.Common.{◌≡◌, ℕ, ◌≤◌, false, List, [], ◌∷◌, ◌++◌, length, get_or, bytes_eq, sym, ap, ◌∙◌, arith}
use Rattle.std.specs.List.{IsDistinct}
use Rattle.std.proofs.lemmas.List.Elements.{All-nil, All-cons}
use Rattle.lois_base.specs.Data.{var}
use Rattle.lois_base.specs.Fits.{Fits}
use Rattle.lois_context.specs.Kept.{IsSlot, AreSlots}
use Rattle.lois_context.specs.Slots.{SlotD}
use Rattle.lois_context.specs.ItemCounts.{comps_in}

pub pair_is : {X : Type 0} (xs : List X) (a b : X) → length xs ≡ 2 → a ≡ get_or xs 0 a → b ≡ get_or xs 1 b → xs ≡ a ∷ b ∷ []
pair_is [] a b l p q = absurd (omega (arith, l))
pair_is (x ∷ []) a b l p q = absurd (omega (arith, l))
pair_is (x ∷ y ∷ []) a b l p q = ap (λ z. z ∷ y ∷ []) (sym p) ∙ ap (λ z. a ∷ z ∷ []) (sym q)
pair_is (x ∷ y ∷ z ∷ xs) a b l p q = absurd (omega (arith, l))

pub two_slots : (s t u : List SlotD) (p q x y : List ℕ) → s ≡ [] → t ≡ s ++ record { name = p; term = var 0; from = 0 } ∷ [] → u ≡ t ++ record { name = q; term = var 1; from = 0 } ∷ [] → p ≡ x → q ≡ y →
    u ≡ record { name = x; term = var 0; from = 0 } ∷ record { name = y; term = var 1; from = 0 } ∷ []
two_slots s t u p q x y empty one two px qy =
    let first : t ≡ record { name = x; term = var 0; from = 0 } ∷ [] = one ∙ (ap (λ z. z ++ record { name = p; term = var 0; from = 0 } ∷ []) empty ∙ ap (λ z. record { name = z; term = var 0; from = 0 } ∷ []) px) in
    two ∙ (ap (λ z. z ++ record { name = q; term = var 1; from = 0 } ∷ []) first ∙ ap (λ z. record { name = x; term = var 0; from = 0 } ∷ record { name = z; term = var 1; from = 0 } ∷ []) qy)

pub two_distinct : (x y : List ℕ) → bytes_eq x y ≡ false → IsDistinct bytes_eq (x ∷ y ∷ [])
unfolding IsDistinct
two_distinct x y h = ((h, tt), (tt, tt))

pub one_distinct : (x : List ℕ) → IsDistinct bytes_eq (x ∷ [])
unfolding IsDistinct
one_distinct x = (tt, tt)

pub one_slot : (s : SlotD) (n : ℕ) → Fits n s.term → s.from ≤ comps_in s.term → AreSlots n (s ∷ [])
one_slot s n f l = All-cons (IsSlot n) s [] (f, l) (All-nil (IsSlot n))
