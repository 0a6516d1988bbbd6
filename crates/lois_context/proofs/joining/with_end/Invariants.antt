use Rattle.std.proofs.Common.{map}
use Rattle.lois_context.specs.Joined.{AreJoinedSlots}
use Rattle.lois_context.specs.Kept.{AreSlots}
use Rattle.lois_context.specs.SlotView.{slot_of}
use Rattle.lois_context.proofs.joining.with_end.Given as goal

abbrev pub invariant-loop-slot : goal.invariant-loop-slot
invariant-loop-slot l = record {
  joined : AreJoinedSlots l.end.«when» l.by l.end.store (map slot_of l.yielded) l.joined;
  fit : AreSlots l.size l.joined;
}
