use Rattle.std.proofs.Common.{take, map}
use Rattle.lois_context.specs.Slots.{IsNew}
use Rattle.lois_context.specs.SlotView.{slot_of}
use Rattle.lois_context.proofs.slots.Store.place_of.Given as goal

abbrev pub invariant-loop-index : goal.invariant-loop-index
invariant-loop-index l = IsNew l.name (map slot_of (take l.index l.slots))
