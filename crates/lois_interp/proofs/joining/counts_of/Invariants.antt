use Rattle.std.proofs.Common.{◌≡◌, take, map}
use Rattle.lois_context.specs.SlotView.{slot_of}
use Rattle.lois_interp.specs.Tidied.{counts_in}
use Rattle.lois_interp.proofs.joining.counts_of.Given as goal

abbrev pub invariant-loop-slot : goal.invariant-loop-slot
invariant-loop-slot l = l.counts.items ≡ counts_in (map slot_of (take l.slot-index l.slot-items))
