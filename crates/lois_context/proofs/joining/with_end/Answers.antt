use Rattle.std.proofs.Common.{◌≡◌, ℕ, [], ◌∷◌, ◌++◌, ◌+◌, ◌-◌, ◌<◌, length, get_or, map, sym, ap, ◌∙◌, subst, arith}
use Rattle.std.proofs.lemmas.Iterator.Adapters.{YieldsList-from_vec}
use Rattle.std.proofs.lemmas.Iterator.Consumers.{YieldsList-turn}
use Rattle.std.proofs.lemmas.List.{length-map, map-append}
use Rattle.std.proofs.lemmas.List.Elements.{All-push}
use Rattle.lois_context.specs.Joined.{AreJoinedSlots}
use Rattle.lois_context.specs.Kept.{IsSlot, AreSlots}
use Rattle.lois_context.specs.SlotView.{slot_of}
use Rattle.lois_context.proofs.Joined.{joined_count, slots_more}
use Rattle.lois_base.proofs.Viewed.{item_has, item_at}
use Rattle.lois_context.proofs.joining.with_end.Goals as goal

pub joined_slot-requires-clause-slot : goal.joined_slot-requires-clause-slot
joined_slot-requires-clause-slot c =
    let slots = c.into_vec-slots.result.items in
    let turn = YieldsList-turn (YieldsList-from_vec slots (cc) (cc)) c.loop-slot.yielded c.loop-slot.slot-iterator c.loop-slot.yielded_by c.next.result c.next.new.self c.in-Some.slot c.in-Some.is c.next.ensures.steps in
    item_has slot_of (IsSlot c.args.size) slots c.args.store (length c.loop-slot.yielded) c.in-Some.slot c.into_vec-slots.ensures.items turn.0 turn.1 c.requires.slots

pub slot_at-partner-requires : goal.slot_at-partner-requires
slot_at-partner-requires c =
    let slots = c.into_vec-slots.result.items in
    let ends = c.as_slice-ends.result.now in
    let yielded = c.loop-slot.yielded in
    let turn = YieldsList-turn (YieldsList-from_vec slots (cc) (cc)) yielded c.loop-slot.slot-iterator c.loop-slot.yielded_by c.next.result c.next.new.self c.in-Some.slot c.in-Some.is c.next.ensures.steps in
    let count : length c.loop-slot.joined ≡ length yielded = joined_count c.args.end.now.«when» (c.args.end.now.size - c.args.size) c.args.end.now.store (map slot_of yielded) c.loop-slot.joined c.loop-slot.invariant.joined ∙ length-map yielded slot_of in
    omega (arith, c.len.ensures.counted, count, turn.0, ap length c.into_vec-slots.ensures.items, length-map slots slot_of, c.requires.count, ap length c.as_slice-ends.ensures.items, length-map ends slot_of)

pub joined_slot-requires-clause-end : goal.joined_slot-requires-clause-end
joined_slot-requires-clause-end c =
    let slots = c.into_vec-slots.result.items in
    let ends = c.as_slice-ends.result.now in
    let yielded = c.loop-slot.yielded in
    let turn = YieldsList-turn (YieldsList-from_vec slots (cc) (cc)) yielded c.loop-slot.slot-iterator c.loop-slot.yielded_by c.next.result c.next.new.self c.in-Some.slot c.in-Some.is c.next.ensures.steps in
    let count : length c.loop-slot.joined ≡ length yielded = joined_count c.args.end.now.«when» (c.args.end.now.size - c.args.size) c.args.end.now.store (map slot_of yielded) c.loop-slot.joined c.loop-slot.invariant.joined ∙ length-map yielded slot_of in
    let within : c.len.result < length ends = omega (arith, c.len.ensures.counted, count, turn.0, ap length c.into_vec-slots.ensures.items, length-map slots slot_of, c.requires.count, ap length c.as_slice-ends.ensures.items, length-map ends slot_of) in
    let size : c.args.end.now.size ≡ c.args.size + (c.args.end.now.size - c.args.size) = omega (arith, c.requires.size) in
    subst (λ n. IsSlot n (slot_of c.slot_at-partner.result.now)) size
    (item_has slot_of (IsSlot c.args.end.now.size) ends c.args.end.now.store c.len.result c.slot_at-partner.result.now c.as_slice-ends.ensures.items within c.slot_at-partner.ensures c.args.end.now.slots)

pub loop-slot-preserved : goal.loop-slot-preserved
loop-slot-preserved c =
    let g = c.args.end.now.«when» in
    let by = c.args.end.now.size - c.args.size in
    let es = c.args.end.now.store in
    let slots = c.into_vec-slots.result.items in
    let ends = c.as_slice-ends.result.now in
    let yielded = c.loop-slot.yielded in
    let k = c.in-Some.slot in
    let e = slot_of c.slot_at-partner.result.now in
    let t = slot_of c.in_ok-joined_slot.field-0 in
    let turn = YieldsList-turn (YieldsList-from_vec slots (cc) (cc)) yielded c.loop-slot.slot-iterator c.loop-slot.yielded_by c.next.result c.next.new.self k c.in-Some.is c.next.ensures.steps in
    let count : length c.loop-slot.joined ≡ length yielded = joined_count g by es (map slot_of yielded) c.loop-slot.joined c.loop-slot.invariant.joined ∙ length-map yielded slot_of in
    let within : c.len.result < length ends = omega (arith, c.len.ensures.counted, count, turn.0, ap length c.into_vec-slots.ensures.items, length-map slots slot_of, c.requires.count, ap length c.as_slice-ends.ensures.items, length-map ends slot_of) in
    let at : e ≡ get_or es (length c.loop-slot.joined) e = subst (λ (m : ℕ). e ≡ get_or es m e) c.len.ensures.counted (item_at slot_of ends es c.len.result c.slot_at-partner.result.now c.as_slice-ends.ensures.items within c.slot_at-partner.ensures) in
    let inside : length c.loop-slot.joined < length es = omega (arith, c.len.ensures.counted, within, ap length c.as_slice-ends.ensures.items, length-map ends slot_of) in
    record {
      joined = subst (λ z. AreJoinedSlots g by es z c.push.new.self) (sym (map-append slot_of yielded (k ∷ [])))
          (subst (AreJoinedSlots g by es (map slot_of yielded ++ slot_of k ∷ [])) (sym c.in_ok-push.ensures.appended) (slots_more g by es (map slot_of yielded) c.loop-slot.joined e (slot_of k) t c.loop-slot.invariant.joined at inside c.in_ok-joined_slot.ensures.joined));
      fit = subst (AreSlots c.args.size) (sym c.in_ok-push.ensures.appended) (All-push (IsSlot c.args.size) c.loop-slot.joined t c.loop-slot.invariant.fit c.in_ok-joined_slot.ensures.slot);
    }
