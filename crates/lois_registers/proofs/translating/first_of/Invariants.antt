use Rattle.std.proofs.Common.{◌≡◌, None}
use Rattle.std.proofs.Common.{replicate}
use Rattle.lois_registers.proofs.translating.first_of.Given as goal

abbrev pub invariant-loop-register : goal.invariant-loop-register
invariant-loop-register l = l.contents.items ≡ replicate l._register None
