use Rattle.std.proofs.Common.{◌≡◌, ◌↔◌, drop, map}
use Rattle.lois_context.specs.SlotView.{slot_of}
use Rattle.lois_context.proofs.slots.Store.is_equal.Given as goal

abbrev pub invariant-loop-i : goal.invariant-loop-i
invariant-loop-i l =
    (l.self ≡ l.other) ↔ (map slot_of (drop l.i l.slots) ≡ map slot_of (drop l.i l.others))
