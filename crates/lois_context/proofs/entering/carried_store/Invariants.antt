use Rattle.std.proofs.Common.{◌≡◌, ◌+◌, take, map}
use Rattle.lois_context.specs.Entered.{carried}
use Rattle.lois_context.specs.Kept.{AreSlots}
use Rattle.lois_context.specs.SlotView.{slot_of}
use Rattle.lois_context.proofs.entering.carried_store.Given as goal

abbrev pub invariant-loop-slot : goal.invariant-loop-slot
invariant-loop-slot l =
    (l.moved ≡ map (carried l.size l.by) (map slot_of (take l.slot-index l.slot-items))) × AreSlots (l.size + l.by) l.moved
