use Rattle.std.proofs.Common.{◌+◌, sym, subst}
use Rattle.std.proofs.lemmas.List.Elements.{All-push}
use Rattle.lois_context.specs.Entered.{carried}
use Rattle.lois_context.specs.Kept.{IsSlot, AreSlots}
use Rattle.lois_context.specs.SlotView.{slot_of}
use Rattle.lois_base.proofs.Viewed.{item_has, mapped_more}
use Rattle.lois_context.proofs.entering.carried_store.Goals as goal

pub carried_slot-requires-clause-fits : goal.carried_slot-requires-clause-fits
carried_slot-requires-clause-fits c =
    (item_has slot_of (IsSlot c.args.size) c.as_slice-slot-items.result.now c.args.store.now c.loop-slot.slot-index c.slot-item.result c.as_slice-slot-items.ensures.items c.loop-slot-test.true c.slot-item.is c.requires.slots).0

pub loop-slot-preserved : goal.loop-slot-preserved
loop-slot-preserved c = (
  mapped_more slot_of (carried c.args.size c.args.by) c.as_slice-slot-items.result.now c.loop-slot.slot-index c.slot-item.result c.loop-slot.moved c.push.new.self (slot_of c.in_ok-carried_slot.field-0) c.in_ok-push.ensures.appended c.in_ok-carried_slot.ensures.carried c.loop-slot.invariant.0 c.loop-slot-test.true c.slot-item.is,
  subst (AreSlots (c.args.size + c.args.by)) (sym c.in_ok-push.ensures.appended) (All-push (IsSlot (c.args.size + c.args.by)) c.loop-slot.moved (slot_of c.in_ok-carried_slot.field-0) c.loop-slot.invariant.1 c.in_ok-carried_slot.ensures.slot),
)
