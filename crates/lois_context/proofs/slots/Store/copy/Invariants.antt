use Rattle.std.proofs.Common.{◌≡◌, take, map}
use Rattle.lois_context.specs.SlotView.{slot_of}
use Rattle.lois_context.proofs.slots.Store.copy.Given as goal

abbrev pub invariant-loop-item : goal.invariant-loop-item
invariant-loop-item l = l.copy ≡ map slot_of (take l.item-index l.item-items)
