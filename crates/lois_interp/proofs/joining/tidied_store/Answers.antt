use Rattle.std.proofs.Common.{◌≡◌, ◌<◌, [], ◌∷◌, ◌++◌, length, get_or, take, sym, ap, ◌∙◌, subst, arith}
use Rattle.std.proofs.lemmas.Iterator.Adapters.{YieldsList-from_vec}
use Rattle.std.proofs.lemmas.Iterator.Consumers.{YieldsList-turn, YieldsList-end}
use Rattle.std.proofs.lemmas.List.{length-map, length_push, map-id, take_all}
use Rattle.lois_base.specs.Validity.{AdmitsTerm}
use Rattle.lois_base.proofs.Viewed.{item_at, item_has}
use Rattle.lois_context.specs.Kept.{IsSlot}
use Rattle.lois_context.specs.Slots.{SlotD}
use Rattle.lois_context.specs.SlotView.{slot_of}
use Rattle.lois_deciders.proofs.OnlyAsked.{only_asked_then}
use Rattle.lois_interp.specs.Tidied.{AreTidied}
use Rattle.lois_interp.proofs.Tidying.{counted_at, counted_length, tidied_next}
use Rattle.lois_interp.proofs.joining.tidied_store.Given.{Over}
use Rattle.lois_interp.proofs.joining.tidied_store.Goals as goal
use Rattle.lois_interp.proofs.joining.tidied_store.Goals.{In-Some}

-- this turn's slot is the one at its place, and there is a count for it
record IsTurn (g : Over) (c : In-Some g) : Type 0 where
  within : length c.loop-slot.yielded < length c.args.store
  counted : length c.loop-slot.yielded < length c.args.counts.now
  at : slot_of c.in-Some.slot ≡ get_or c.args.store (length c.loop-slot.yielded) (slot_of c.in-Some.slot)
  slot : IsSlot c.args.size (slot_of c.in-Some.slot)
  admitted : AdmitsTerm g.T.Structure.ordered (slot_of c.in-Some.slot).term

turn : (g : Over) (c : In-Some g) → IsTurn g c
turn g c =
    let slots = c.into_vec-slots.result.items in let i = length c.loop-slot.yielded in let s = c.in-Some.slot in
    let seen = c.into_vec-slots.ensures.items in
    let t = YieldsList-turn (YieldsList-from_vec slots (cc) (cc)) c.loop-slot.yielded c.loop-slot.slot-iterator c.loop-slot.yielded_by c.next.result c.next.new.self s c.in-Some.is c.next.ensures.steps in
    let within : i < length c.args.store = omega (arith, t.0, ap length seen, length-map slots slot_of) in
    record {
      within = within;
      counted = omega (arith, within, counted_length c.args.counts.now c.args.store c.requires.counted);
      at = item_at slot_of slots c.args.store i s seen t.0 t.1;
      slot = item_has slot_of (IsSlot c.args.size) slots c.args.store i s seen t.0 t.1 c.requires.slots;
      admitted = item_has slot_of (λ (z : SlotD). AdmitsTerm g.T.Structure.ordered z.term) slots c.args.store i s seen t.0 t.1 c.requires.operators;
    }

pub count_at-first-requires : goal.count_at-first-requires
count_at-first-requires g c =
    let t = turn g (goal.at.count_at-first-requires g c).In-Some in
    omega (arith, t.counted, c.len.ensures.counted, c.loop-slot.invariant.count)

pub tidied_slot-requires-clause-count : goal.tidied_slot-requires-clause-count
tidied_slot-requires-clause-count g c =
    let t = turn g (goal.at.tidied_slot-requires-clause-count g c).In-Some in
    let least = counted_at c.args.counts.now c.args.store (length c.loop-slot.yielded) (slot_of c.in-Some.slot) c.requires.counted t.within t.at in
    let same : c.count_at-first.result ≡ get_or c.args.counts.now (length c.loop-slot.yielded) 0 = c.count_at-first.ensures ∙ ap (λ z. get_or c.args.counts.now z 0) (c.len.ensures.counted ∙ c.loop-slot.invariant.count) in
    omega (arith, least, same)

pub tidied_slot-requires-clause-over : goal.tidied_slot-requires-clause-over
tidied_slot-requires-clause-over g c =
    let t = turn g (goal.at.tidied_slot-requires-clause-over g c).In-Some in
    record { levels = t.slot.0; operators = t.admitted }

pub loop-slot-preserved : goal.loop-slot-preserved
loop-slot-preserved g c =
    let t = turn g (goal.at.loop-slot-preserved g c).In-Some in
    let yielded = c.loop-slot.yielded in let i = length yielded in let s = c.in-Some.slot in
    let e = slot_of c.in_ok-tidied_slot.field-0 in
    let same : c.count_at-first.result ≡ get_or c.args.counts.now i 0 = c.count_at-first.ensures ∙ ap (λ z. get_or c.args.counts.now z 0) (c.len.ensures.counted ∙ c.loop-slot.invariant.count) in
    record {
      count = ap length c.in_ok-push.ensures.appended ∙ omega (arith, length_push c.loop-slot.tidied e, length_push yielded s, c.loop-slot.invariant.count);
      tidied = tidied_next c.args.size c.args.«when».now c.args.counts.now c.args.store c.loop-slot.tidied c.push.new.self i (length (yielded ++ s ∷ [])) c.count_at-first.result (slot_of s) e (length_push yielded s) c.in_ok-push.ensures.appended t.counted t.within same t.at c.loop-slot.invariant.tidied c.in_ok-tidied_slot.ensures.tidied;
      only_asked = only_asked_then (λ b. (goal.Decider-dyn g (b.vtable, b.value)).kind_of b.value) (λ b. (goal.Decider-dyn g (b.vtable, b.value)).questions b.value) c.args.chosen.now c.loop-slot.chosen c.tidied_slot.new.chosen c.loop-slot.invariant.only_asked c.tidied_slot.ensures.only_asked;
    }

pub returns-in_err-push-clause-only_asked : goal.returns-in_err-push-clause-only_asked
returns-in_err-push-clause-only_asked g c =
    only_asked_then (λ b. (goal.Decider-dyn g (b.vtable, b.value)).kind_of b.value) (λ b. (goal.Decider-dyn g (b.vtable, b.value)).questions b.value) c.args.chosen.now c.loop-slot.chosen c.tidied_slot.new.chosen c.loop-slot.invariant.only_asked c.tidied_slot.ensures.only_asked

pub returns-clause-tidied : goal.returns-clause-tidied
returns-clause-tidied g c =
    let n = c.args.size in let u = c.args.«when».now in
    let ns = c.args.counts.now in let ss = c.args.store in
    let slots = c.into_vec-slots.result.items in let i = length c.loop-slot.yielded in
    let end = YieldsList-end (YieldsList-from_vec slots (cc) (cc)) c.loop-slot.yielded c.loop-slot.slot-iterator c.loop-slot.yielded_by c.next.result c.next.new.self c.in-None.is c.next.ensures.steps in
    let whole : i ≡ length ss = ap length (sym (map-id c.loop-slot.yielded) ∙ end.0) ∙ (sym (length-map slots slot_of) ∙ ap length c.into_vec-slots.ensures.items) in
    let count = counted_length ns ss c.requires.counted in
    subst (λ z. AreTidied n u z ss c.loop-slot.tidied) (take_all i ns (omega (arith, whole, count)))
    (subst (λ z. AreTidied n u (take i ns) z c.loop-slot.tidied) (take_all i ss (omega (arith, whole))) c.loop-slot.invariant.tidied)
