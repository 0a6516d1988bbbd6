use Rattle.std.proofs.Common.{◌≡◌, take, map}
use Rattle.lois_context.specs.Joined.{AreJoined}
use Rattle.lois_context.specs.Kept.{AreSlots}
use Rattle.lois_context.specs.Slots.{slot_name}
use Rattle.lois_context.proofs.joining.joined.Given as goal

abbrev pub invariant-loop-end : goal.invariant-loop-end
invariant-loop-end l = record {
  joined : AreJoined l.size (take l.end-index l.ends) l.fn.store l.joined;
  fit : AreSlots l.size l.joined;
  names : map slot_name l.joined ≡ map slot_name l.fn.store;
}
