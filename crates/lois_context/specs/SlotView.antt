-- What a slot says, as data.
use Rattle.lois_base.specs.Tree.{tree}
use Rattle.lois_context.specs.Slots.{SlotD}
use Rattle.lois_context.specs.declared.slots.Slot.{Slot}

abbrev pub slot_of : Slot → SlotD
slot_of s = record { name = s.name; term = tree s.term; from = s.from }
