-- What a name holds.
use Rattle.std.proofs.Common.{◌≡◌, ℕ, zero, suc, ◌<◌, Bool, true, false, inl, inr, List, [], ◌∷◌, length, get_or, map, Some, refl, sym, ap, subst, ◌∙◌, arith}
use Rattle.std.proofs.lemmas.Bool.{false≢true}
use Rattle.std.specs.Prelude.{if◌then◌else◌, bytes_eq}
use Rattle.std.specs.List.{All, AllByRecursion, IsDistinct}
use Rattle.std.specs.Bool.{IsFalse}
use Rattle.std.proofs.lemmas.Slice.Eq.{bytes_eq-Decides}
use Rattle.lois_context.specs.Kept.{HasDistinctNames}
use Rattle.std.proofs.lemmas.List.Elements.{All-head, All-tail}
use Rattle.lois_base.specs.Atom.{Atom}
use Rattle.lois_base.specs.Data.{TermD}
use Rattle.lois_base.specs.Values.{point}
use Rattle.lois_meaning.specs.Store.{looked_up}
use Rattle.lois_context.specs.Slots.{SlotD, IsNew, slot_name, store_at}
use Rattle.lois_eval.specs.Made.{term_held, IsHeldBy}
use Rattle.lois_eval.specs.WellFormed.{IsNamed, names_of}

-- a name in scope isn't new
pub not_new : (x : List ℕ) (ss : List SlotD) → IsNamed x (names_of ss) → IsNew x ss → ⊥
not_new x [] n h = n
not_new x (s ∷ ss) (inl e) h = false≢true (sym (All-head (λ s. IsFalse (bytes_eq s.name x)) s ss h) ∙ e)
not_new x (s ∷ ss) (inr n) h = not_new x ss n (All-tail (λ s. IsFalse (bytes_eq s.name x)) s ss h)

apart_at : (y : List ℕ) (ss : List SlotD) (i : ℕ) (d : SlotD) → AllByRecursion (λ z. bytes_eq y z ≡ false) (map slot_name ss) → i < length ss → bytes_eq y (get_or ss i d).name ≡ false
apart_at y [] i d h l = absurd (omega (arith, l))
apart_at y (s ∷ ss) zero d h l = h.0
apart_at y (s ∷ ss) (suc i) d h l = apart_at y ss i d h.1 (omega (arith, l))

-- names are distinct, so a slot with the name is the first one
pub held_at : (x : List ℕ) (ss : List SlotD) (i : ℕ) (d : SlotD) → HasDistinctNames ss → i < length ss → (get_or ss i d).name ≡ x → IsHeldBy x ss (get_or ss i d).term
unfolding IsDistinct
held_at x [] i d h l e = absurd (omega (arith, l))
held_at x (s ∷ ss) zero d h l e = ap (λ b. if b then Some s.term else term_held x ss) ((bytes_eq-Decides s.name x).1 e)
held_at x (s ∷ ss) (suc i) d h l e =
    let other : bytes_eq s.name x ≡ false = subst (λ z. bytes_eq s.name z ≡ false) e (apart_at s.name ss i d h.0 (omega (arith, l))) in
    ap (λ b. if b then Some s.term else term_held x ss) other ∙ held_at x ss i d h.1 (omega (arith, l)) e

-- what is held has its term's value at each choice
pub held_value : (x : List ℕ) (ss : List SlotD) (t : TermD) (c : List Atom) → IsHeldBy x ss t → looked_up x (store_at c ss) ≡ Some (point t c)
held_value x [] t c h = absurd (cc)
held_value x (s ∷ ss) t c h = go (held_value x ss t c) (bytes_eq s.name x) refl
  where
    go : (IsHeldBy x ss t → looked_up x (store_at c ss) ≡ Some (point t c)) → (b : Bool) → bytes_eq s.name x ≡ b → looked_up x (store_at c (s ∷ ss)) ≡ Some (point t c)
    go later true e =
        let is : Some s.term ≡ Some t = sym (ap (λ b. if b then Some s.term else term_held x ss) e) ∙ h in
        let same : s.term ≡ t = cc in
        ap (λ b. if b then Some (point s.term c) else looked_up x (store_at c ss)) e ∙ ap (λ z. Some (point z c)) same
    go later false e =
        ap (λ b. if b then Some (point s.term c) else looked_up x (store_at c ss)) e ∙ later (sym (ap (λ b. if b then Some s.term else term_held x ss) e) ∙ h)

-- what is true of all slots is true of the one that is held
pub held_has : (P : TermD → Type 0) (x : List ℕ) (ss : List SlotD) (t : TermD) → All (λ s. P s.term) ss → IsHeldBy x ss t → P t
held_has P x [] t a h = absurd (cc)
held_has P x (s ∷ ss) t a h = go (held_has P x ss t (All-tail (λ s. P s.term) s ss a)) (bytes_eq s.name x) refl
  where
    go : (IsHeldBy x ss t → P t) → (b : Bool) → bytes_eq s.name x ≡ b → P t
    go later true e =
        let is : Some s.term ≡ Some t = sym (ap (λ b. if b then Some s.term else term_held x ss) e) ∙ h in
        let same : s.term ≡ t = cc in
        subst P same (All-head (λ s. P s.term) s ss a)
    go later false e = later (sym (ap (λ b. if b then Some s.term else term_held x ss) e) ∙ h)
