use Rattle.lois_base.proofs.Viewed.{mapped_more}
use Rattle.lois_context.specs.Slots.{slot_name}
use Rattle.lois_context.specs.SlotView.{slot_of}
use Rattle.lois_vectors_expressions.proofs.making.names_in.Goals as goal

pub loop-slot-preserved : goal.loop-slot-preserved
loop-slot-preserved c =
    mapped_more slot_of slot_name c.as_slice-slot-items.result.now c.loop-slot.slot-index c.slot-item.result c.loop-slot.names c.push.new.self c.in_ok-copy.field-0 c.in_ok-push.ensures.ok c.in_ok-copy.ensures c.loop-slot.invariant c.loop-slot-test.true c.slot-item.is
