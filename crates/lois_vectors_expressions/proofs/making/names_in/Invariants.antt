use Rattle.std.proofs.Common.{◌≡◌, take, map}
use Rattle.lois_context.specs.SlotView.{slot_of}
use Rattle.lois_eval.specs.WellFormed.{names_of}
use Rattle.lois_vectors_expressions.proofs.making.names_in.Given as goal

abbrev pub invariant-loop-slot : goal.invariant-loop-slot
invariant-loop-slot l = l.names ≡ names_of (map slot_of (take l.slot-index l.slot-items))
