use Rattle.std.proofs.Common.{◌≡◌, ℕ, ◌<◌, ◌≤◌, List, [], ◌∷◌, ◌++◌, length, get_or, map, sym, ap, ◌∙◌, subst, arith}
use Rattle.std.proofs.lemmas.List.Elements.{All-cons, All-tail}
use Rattle.std.specs.List.{All}
use Rattle.lois_context.specs.Joined.{IsEndSlot, AreEndSlots}
use Rattle.lois_context.specs.Kept.{IsSlot, AreSlots}
use Rattle.lois_context.specs.Slots.{SlotD, slot_name}
use Rattle.lois_context.specs.SlotView.{slot_of}
use Rattle.lois_context.specs.declared.slots.Slot.{Slot}
use Rattle.lois_vectors_contexts.proofs.contexts.grown_store.Goals as goal

two_of : (xs : List Slot) (a b : Slot) → 2 ≤ length xs → length xs < 3 → a ≡ get_or xs 0 a → b ≡ get_or xs 1 b → xs ≡ a ∷ b ∷ []
two_of [] a b m l p q = absurd (omega (arith, m))
two_of (x ∷ []) a b m l p q = absurd (omega (arith, m))
two_of (x ∷ y ∷ []) a b m l p q =
    let first : a ≡ x = p in
    let second : b ≡ y = q in
    cc
two_of (x ∷ y ∷ z ∷ xs) a b m l p q = absurd (omega (arith, l))

pushed : (none one two : List SlotD) (a b : SlotD) → none ≡ [] → one ≡ none ++ a ∷ [] → two ≡ one ++ b ∷ [] → two ≡ a ∷ b ∷ []
pushed none one two a b p q r =
    r ∙ ap (λ z. z ++ b ∷ []) (q ∙ ap (λ z. z ++ a ∷ []) p)

-- two slots, and another in the place of the first
module _ (old now : List SlotD) (first last new : SlotD) (was : old ≡ first ∷ last ∷ []) (is : now ≡ new ∷ last ∷ []) where
  slots_kept : (n : ℕ) → AreSlots n old → IsSlot n new → AreSlots n now
  slots_kept n h own =
      let both : All (IsSlot n) (first ∷ last ∷ []) = subst (AreSlots n) was h in
      subst (AreSlots n) (sym is) (All-cons (IsSlot n) new (last ∷ []) own (All-tail (IsSlot n) first (last ∷ []) both))

  names_kept : new.name ≡ first.name → map slot_name now ≡ map slot_name old
  names_kept same = ap (map slot_name) is ∙ (ap (λ z. z ∷ last.name ∷ []) same ∙ sym (ap (map slot_name) was))

  ends_kept : (n by : ℕ) → ((s : SlotD) → IsEndSlot n by s first → IsEndSlot n by s new) → (ss : List SlotD) → AreEndSlots n by ss old → AreEndSlots n by ss now
  ends_kept n by keeps ss h = subst (AreEndSlots n by ss) (sym is) (go ss (subst (AreEndSlots n by ss) was h))
    where
      go : (ss : List SlotD) → AreEndSlots n by ss (first ∷ last ∷ []) → AreEndSlots n by ss (new ∷ last ∷ [])
      go [] h = tt
      go (s ∷ ss) h = (keeps s h.0, h.1)

pub returns : goal.returns
returns g c =
    let first = slot_of c.first-item.result in
    let last = slot_of c.last-item.result in
    let new = slot_of c.in_ok-grown_slot.field-0 in
    let both = two_of c.as_slice.result.now c.first-item.result c.last-item.result (omega (arith, c.in-len2.len_at_least)) (omega (arith, c.in-len2.len_below)) c.first-item.is c.last-item.is in
    let was : c.args.store.now ≡ first ∷ last ∷ [] = sym c.as_slice.ensures.items ∙ ap (map slot_of) both in
    let is : c.push-2.new.self ≡ new ∷ last ∷ [] = pushed c.new-grown.result c.push.new.self c.push-2.new.self new (slot_of c.in_ok-copy.field-0) c.new-grown.ensures.empty c.in_ok-push.ensures.appended c.in_ok-push-2.ensures.appended ∙ ap (λ z. new ∷ z ∷ []) c.in_ok-copy.ensures.same in
    record {
      slots = slots_kept c.args.store.now c.push-2.new.self first last new was is c.args.size c.requires c.in_ok-grown_slot.ensures.slot;
      names = names_kept c.args.store.now c.push-2.new.self first last new was is c.in_ok-grown_slot.ensures.name;
      end = λ n by ss. ends_kept c.args.store.now c.push-2.new.self first last new was is n by (c.in_ok-grown_slot.ensures.end n by) ss;
    }
